-- `rolwyddac_tenant_collect` meets its contract: what the call over words gave, at the words of both tenants' records.
use Rattle.records.specs.Records.{flat_words}
use Rattle.calls.proofs.tenant.rolwyddac_tenant_collect.Goals as goal

pub returns : goal.returns
returns c =
    rw c.number_of.ensures (c.collect.ensures (flat_words c.args.progress.now) (flat_words c.args.other.now) c.flatten-own.ensures c.flatten-theirs.ensures)
