use Rattle.std.proofs.Common.{◌<◌, None, arith}
use Rattle.std.proofs.lemmas.List.FromFn.{get_or-map-range_with_len}
use Rattle.sched_validate.specs.Files.{share_from}
use Rattle.sched_validate.specs.Lists.{files_of}
use Rattle.sched_validate.proofs.table.CheckedTableMachine.file_of.Goals as goal

pub returns : goal.returns
returns c = let low : c.args.rd < 32 = omega (arith, c.number.ensures.value, c.number.ensures.bound) in
    rw (c.as_slice.ensures, c.args.self.now.right.shares, c.number.ensures.value) (get_or-map-range_with_len (λ r. share_from 0 r (files_of c.args.self.now.entries.list)) 0 32 c.args.rd c.args.rd None low (omega arith))
