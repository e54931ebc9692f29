use Rattle.std.proofs.Common.{◌≡◌, ◌∙◌, codes}
use Rattle.std.specs.Fmt.{decimal}
use Rattle.mca_views.specs.Lines.{labelled}
use Rattle.mca_views.proofs.bottlenecks.put_sums.Goals as goal

pub returns-clause-ok : goal.returns-clause-ok
returns-clause-ok c =
    let registers : c.as_slice.result.now ≡ labelled (codes "Register wait:") (decimal c.args.registers) = c.as_slice.ensures.value ∙ c.in_ok-registers.ensures in
    let memory : c.as_slice-2.result.now ≡ labelled (codes "Memory wait:") (decimal c.args.memory) = c.as_slice-2.ensures.value ∙ c.in_ok-memory.ensures in
    let resources : c.as_slice-3.result.now ≡ labelled (codes "Resource wait:") (decimal c.args.resources) = c.as_slice-3.ensures.value ∙ c.in_ok-resources.ensures in
    rw (registers, memory, resources) at c.put_lines.ensures.ok
