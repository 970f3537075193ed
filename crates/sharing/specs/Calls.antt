-- Read this.
-- The calls for a tenant, each from the recipe's bytes, the word that names its route and what is lent: its number, and what is written.
-- Renders request W-208, and W-209's line 21: all lines in table order: line 9 covers all that is lent, then the tenant's number, then the machine's lines.
use Rattle.std.specs.Prelude.{ℕ, ◌*◌, Bool, List, [], ◌∷◌, ◌++◌, length, ◌==◌, nat_eq, nat_le, nat_lt}
use Rattle.base.specs.Tests.{◌and◌, not, pick}
use Rattle.base.specs.Lists.{sublist}
use Rattle.base.specs.Numbers.{Line, line, first_of}
use Rattle.machine.specs.Plan.{Plan}
use Rattle.machine.specs.Machine.{Answered, answered, next_action, collected}
use Rattle.machine.specs.Runs.{Event, turn_of, delivery_of}
use Rattle.tenants.specs.Tenants.{TenantAreas, turn_lines_for, carry_out_for, deliver_lines_for, delivered_for, collect_lines_for}
use Rattle.tenants.specs.Tenants.{of_tenant, Sharing, Sources, source_for, other_of, lent_to, put_back, fresh_sharing, Call}
use Rattle.nest.specs.Reader.{read_lines}
use Rattle.layout.specs.RouteWords.{route_of}
use Rattle.recipe.specs.Routes.{lines_for}
use Rattle.engine.specs.Calls.{recipe, areas}

-- a tenant's own areas, the shared words and the other's records have exactly their lengths
unfoldable pub areas_for : Plan → List ℕ → TenantAreas → List ℕ → Bool
areas_for p source l theirs =
    areas p source l.own and (nat_eq (length l.engaged) p.processors and nat_eq (length theirs) (3 * p.processors))

-- the reader's lines and the route's come first, then line 9; the lines behind them are the tenant's
abbrev pub area_lines_for : Plan → List ℕ → TenantAreas → List ℕ → List Line
area_lines_for p source l theirs = line 9 (not (areas_for p source l theirs)) ∷ []

-- ---- a turn, a delivery and collecting for tenant o

abbrev pub turn_call_lines_for : List ℕ → ℕ → List ℕ → ℕ → TenantAreas → List ℕ → ℕ → List Line
turn_call_lines_for bytes route source o l theirs b =
    lines_for (route_of route) bytes ++ (area_lines_for (recipe bytes route) source l theirs ++ turn_lines_for (recipe bytes route) o l theirs b)

unfoldable pub turn_call_for : List ℕ → ℕ → List ℕ → ℕ → TenantAreas → List ℕ → ℕ → Answered TenantAreas
turn_call_for bytes route source o l theirs b =
    answered (first_of (turn_call_lines_for bytes route source o l theirs b))
    (carry_out_for (recipe bytes route) source o l b (next_action (recipe bytes route) l.own b)) l

abbrev pub deliver_call_lines_for : List ℕ → ℕ → List ℕ → ℕ → TenantAreas → List ℕ → ℕ → List Line
deliver_call_lines_for bytes route source o l theirs m =
    lines_for (route_of route) bytes ++ (area_lines_for (recipe bytes route) source l theirs ++ deliver_lines_for (recipe bytes route) o l theirs m)

unfoldable pub deliver_call_for : List ℕ → ℕ → List ℕ → ℕ → TenantAreas → List ℕ → ℕ → Answered TenantAreas
deliver_call_for bytes route source o l theirs m =
    answered (first_of (deliver_call_lines_for bytes route source o l theirs m)) (delivered_for l m) l

-- collecting is lent the grid too, one word a cell
abbrev pub collect_call_lines_for : List ℕ → ℕ → List ℕ → ℕ → TenantAreas → List ℕ → List ℕ → List Line
collect_call_lines_for bytes route source o l theirs grid =
    lines_for (route_of route) bytes
    ++ (line 9 (not (areas_for (recipe bytes route) source l theirs and nat_eq (length grid) (recipe bytes route).cells))
    ∷ collect_lines_for (recipe bytes route) o l theirs)

unfoldable pub collect_call_for : List ℕ → ℕ → List ℕ → ℕ → TenantAreas → List ℕ → List ℕ → Answered (List ℕ)
collect_call_for bytes route source o l theirs grid =
    answered (first_of (collect_call_lines_for bytes route source o l theirs grid)) (collected (recipe bytes route) l.own) grid

-- ---- a fresh start of both tenants together

unfoldable pub sharing_areas : Plan → Sources → Sharing → Bool
sharing_areas p sources r =
    areas p sources.first r.first and (areas p sources.second r.second and nat_eq (length r.engaged) p.processors)

abbrev pub fresh_sharing_lines : List ℕ → ℕ → Sources → Sharing → List Line
fresh_sharing_lines bytes route sources r = lines_for (route_of route) bytes ++ (line 9 (not (sharing_areas (recipe bytes route) sources r)) ∷ [])

unfoldable pub fresh_sharing_call : List ℕ → ℕ → Sources → Sharing → Answered Sharing
fresh_sharing_call bytes route sources r = answered (first_of (fresh_sharing_lines bytes route sources r)) (fresh_sharing (recipe bytes route)) r

-- ---- a view at a processor's memory: lent both tenants' memories alone, the same on every route

abbrev pub memories_long : Plan → List ℕ → Bool
memories_long p memories = length memories == p.processors * p.cells

abbrev pub view_lines : List ℕ → List ℕ → List ℕ → ℕ → ℕ → List Line
view_lines bytes first second o b =
    read_lines bytes
    ++ (line 9 (not (memories_long (recipe bytes 0) first and memories_long (recipe bytes 0) second))
    ∷ line 11 (not (nat_le o 1 and nat_lt b (recipe bytes 0).processors)) ∷ [])

-- its number, which a second call gives
abbrev pub view_number : List ℕ → List ℕ → List ℕ → ℕ → ℕ → ℕ
view_number bytes first second o b = first_of (view_lines bytes first second o b)

-- and the part of the named tenant's memories, empty at any refusal
unfoldable pub view_part : List ℕ → List ℕ → List ℕ → ℕ → ℕ → List ℕ
view_part bytes first second o b =
    pick (view_number bytes first second o b == 0)
    (sublist (of_tenant o first second) (b * (recipe bytes 0).cells) (recipe bytes 0).cells) []

-- ---- the calls of a run

unfoldable pub call_for : List ℕ → ℕ → List ℕ → ℕ → TenantAreas → List ℕ → Event → Answered TenantAreas
call_for bytes route source o l theirs (turn_of b) = turn_call_for bytes route source o l theirs b
call_for bytes route source o l theirs (delivery_of m) = deliver_call_for bytes route source o l theirs m

-- each lent what it names of the sharing
unfoldable pub sharing_calls : List ℕ → ℕ → Sources → Sharing → Call → Answered Sharing
sharing_calls bytes route sources r c =
    put_back r c.tenant
    (call_for bytes route (source_for sources c.tenant) c.tenant (lent_to r c.tenant) (other_of r c.tenant).progress c.event)

unfoldable pub sharing_collects : List ℕ → ℕ → Sources → Sharing → ℕ → List ℕ → Answered (List ℕ)
sharing_collects bytes route sources r o grid =
    collect_call_for bytes route (source_for sources o) o (lent_to r o) (other_of r o).progress grid
