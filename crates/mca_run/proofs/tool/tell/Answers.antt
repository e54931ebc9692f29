use Rattle.std.proofs.Common.{inr, refl}
use Rattle.mca_run.specs.declared.status.Status.TheVariants.{Memory}
use Rattle.mca_run.proofs.tool.tell.Goals as goal

pub returns : goal.returns
returns g c = inr (inr (
  refl,
  (
    Memory,
    inr refl,
    record {
      count = c.in-Err-write_whole-2.ensures.front.0;
      proper = c.in-Err-write_whole-2.ensures.front.1;
      front = c.in-Err-write_whole-2.ensures.front.2;
      rose = c.in-Err-write_whole-2.ensures.cause.failed;
    },
  ),
))
