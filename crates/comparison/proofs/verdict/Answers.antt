-- The areas' first words; the source in those of its own.
use Prim.Native.Nat.{◌*◌}
use mathlib.Core.Path.{refl, ◌∙◌}
use native.Mathlib.Omega.{arith}
use Rattle.base.specs.Lists.{Bytes}
use Rattle.comparison.specs.Lines.{zeros}
use Rattle.comparison.proofs.Lines as L
use Rattle.comparison.proofs.Laws as laws
use Rattle.comparison.proofs.verdict.Goals as goal

pub slice_bounds-source-end : goal.slice_bounds-source-end
slice_bounds-source-end c =
    laws.cells_room c.args.encoded.now c.args.extent (λ i. omega (arith, c.shared_slice_known-1.given i)) c.requires
    c.args.extent.cells refl

pub slice_bounds-fill_source-end : goal.slice_bounds-fill_source-end
slice_bounds-fill_source-end c =
    laws.counted c.args.extent.cells (zeros 1024)
    (laws.cells_room c.args.encoded.now c.args.extent (λ i. omega (arith, c.shared_slice_known-1.given i)) c.requires
    c.args.extent.cells refl)

pub fill_source-requires : goal.fill_source-requires
fill_source-requires c =
    omega (
      arith,
      laws.counted c.args.extent.cells (zeros 1024)
          (laws.cells_room c.args.encoded.now c.args.extent (λ i. omega (arith, c.shared_slice_known-1.given i)) c.requires
          c.args.extent.cells refl),
      c.requires.cells,
    )

pub slice_bounds-source-end-2 : goal.slice_bounds-source-end-2
slice_bounds-source-end-2 c =
    let fill-source = c.fill_source in
    let room = laws.cells_room c.args.encoded.now c.args.extent (λ i. omega (arith, c.shared_slice_known-1.given i)) c.requires
    c.args.extent.cells refl in
    laws.back_room c.args.extent.cells (zeros 1024) fill-source.new.source room fill-source.auto.source

pub slice_bounds-agrees-end : goal.slice_bounds-agrees-end
slice_bounds-agrees-end c =
    let fill-source = c.fill_source in
    let room = laws.cells_room c.args.encoded.now c.args.extent (λ i. omega (arith, c.shared_slice_known-1.given i)) c.requires
    c.args.extent.cells refl in
    laws.counted c.args.extent.cells _
    (laws.back_room c.args.extent.cells (zeros 1024) fill-source.new.source room fill-source.auto.source)

pub slice_bounds-memories-end : goal.slice_bounds-memories-end
slice_bounds-memories-end c =
    let memory-words = c.memory_words-m in
    laws.memories_room c.args.encoded.now c.args.extent (λ i. omega (arith, c.shared_slice_known-1.given i)) c.requires
    memory-words.result memory-words.ensures

pub slice_bounds-agrees-end-2 : goal.slice_bounds-agrees-end-2
slice_bounds-agrees-end-2 c =
    let memory-words = c.memory_words-m in
    laws.counted memory-words.result (zeros 4096)
    (laws.memories_room c.args.encoded.now c.args.extent (λ i. omega (arith, c.shared_slice_known-1.given i)) c.requires
    memory-words.result memory-words.ensures)

pub slice_bounds-buffer-end : goal.slice_bounds-buffer-end
slice_bounds-buffer-end c =
    laws.words_room c.args.encoded.now c.args.extent (λ i. omega (arith, c.shared_slice_known-1.given i)) c.requires
    c.args.extent.words refl

pub slice_bounds-agrees-end-3 : goal.slice_bounds-agrees-end-3
slice_bounds-agrees-end-3 c =
    laws.counted c.args.extent.words (zeros 7168)
    (laws.words_room c.args.encoded.now c.args.extent (λ i. omega (arith, c.shared_slice_known-1.given i)) c.requires
    c.args.extent.words refl)

pub slice_bounds-progress-end : goal.slice_bounds-progress-end
slice_bounds-progress-end c =
    laws.progress_room c.args.encoded.now c.args.extent (λ i. omega (arith, c.shared_slice_known-1.given i)) c.requires
    c.args.extent.processors refl

pub slice_bounds-agrees-end-4 : goal.slice_bounds-agrees-end-4
slice_bounds-agrees-end-4 c =
    laws.counted (3 * c.args.extent.processors) (zeros 192)
    (laws.progress_room c.args.encoded.now c.args.extent (λ i. omega (arith, c.shared_slice_known-1.given i)) c.requires
    c.args.extent.processors refl)

pub slice_bounds-status-end : goal.slice_bounds-status-end
slice_bounds-status-end c =
    laws.messages_room c.args.encoded.now c.args.extent (λ i. omega (arith, c.shared_slice_known-1.given i)) c.requires
    c.args.extent.messages refl

pub slice_bounds-agrees-end-5 : goal.slice_bounds-agrees-end-5
slice_bounds-agrees-end-5 c =
    laws.counted c.args.extent.messages (zeros 7168)
    (laws.messages_room c.args.encoded.now c.args.extent (λ i. omega (arith, c.shared_slice_known-1.given i)) c.requires
    c.args.extent.messages refl)

pub slice_bounds-grid-end : goal.slice_bounds-grid-end
slice_bounds-grid-end c =
    laws.cells_room c.args.encoded.now c.args.extent (λ i. omega (arith, c.shared_slice_known-1.given i)) c.requires
    c.args.extent.cells refl

pub slice_bounds-agrees-end-6 : goal.slice_bounds-agrees-end-6
slice_bounds-agrees-end-6 c =
    laws.counted c.args.extent.cells (zeros 1024)
    (laws.cells_room c.args.encoded.now c.args.extent (λ i. omega (arith, c.shared_slice_known-1.given i)) c.requires
    c.args.extent.cells refl)

pub slice_bounds-swept-end : goal.slice_bounds-swept-end
slice_bounds-swept-end c =
    laws.cells_room c.args.encoded.now c.args.extent (λ i. omega (arith, c.shared_slice_known-1.given i)) c.requires
    c.args.extent.cells refl

pub slice_bounds-agrees-end-7 : goal.slice_bounds-agrees-end-7
slice_bounds-agrees-end-7 c =
    laws.counted c.args.extent.cells (zeros 1024)
    (laws.cells_room c.args.encoded.now c.args.extent (λ i. omega (arith, c.shared_slice_known-1.given i)) c.requires
    c.args.extent.cells refl)

pub returns : goal.returns
returns c =
    let memory-words = c.memory_words-m in
    let fill-source = c.fill_source in
    let bytes : Bytes c.args.encoded.now = λ i. omega (arith, c.shared_slice_known-1.given i) in
    let told = L.told c.args.encoded.now c.args.extent bytes c.requires c.args.counting c.args.falling
    c.args.extent.cells memory-words.result c.args.extent.words c.args.extent.processors c.args.extent.messages refl memory-words.ensures
    refl
    refl refl fill-source.new.source fill-source.auto.source fill-source.ensures _
    c.agrees.ensures in
    record { value = told; value_2 = told ∙ L.verdict_true c.args.encoded.now bytes c.args.extent c.requires c.args.counting c.args.falling }
