use Rattle.std.proofs.Common.{◌≡◌, ◌<◌, None, get_or, arith}
use Rattle.reg_files.proofs.Writes.{frees, read_at, were_taken, share_taken, some_of_each}
use Rattle.reg_files.proofs.files.Files.free.Goals as goal

pub returns : goal.returns
returns c = λ m writes h.
    let low : c.args.rd < 32 = omega (arith, c.number-r.ensures.value, c.number-r.ensures.bound) in
    let share : c.index-share.result.now ≡ get_or c.args.self.now.shares.items c.args.rd None = read_at c.args.self.now.shares.items c.number-r.result c.args.rd c.index-share.result.now None c.index-share.ensures c.number-r.ensures.value (omega (arith, low, c.args.self.now.shape.shares)) in
    let count : c.index_mut.result.now ≡ get_or c.args.self.now.held.items c.args.rd 0 = read_at c.args.self.now.held.items c.number-r.result c.args.rd c.index_mut.result.now 0 c.index_mut.ensures.value c.number-r.ensures.value (omega (arith, low, c.args.self.now.shape.held)) in
    rw (c.free_share.ensures, share, count, c.number-r.ensures.value, c.weight.ensures.value)
    (frees m c.args.self.now.bound c.args.self.now.shares.items c.args.self.now.sizes.items c.args.self.now.used.items c.args.self.now.held.items c.args.self.now.in_flight writes c.args.rd h low c.args.self.now.shape.held (some_of_each c.requires.0 m _ _ _ _ _ _ c.requires.1 writes c.args.rd c.requires.2 h low c.requires.3))

pub overflow_sub-index_mut : goal.overflow_sub-index_mut
overflow_sub-index_mut c =
    let low : c.args.rd < 32 = omega (arith, c.number-r.ensures.value, c.number-r.ensures.bound) in
    let count : c.index_mut.result.now ≡ get_or c.args.self.now.held.items c.args.rd 0 = read_at c.args.self.now.held.items c.number-r.result c.args.rd c.index_mut.result.now 0 c.index_mut.ensures.value c.number-r.ensures.value (omega (arith, low, c.args.self.now.shape.held)) in
    omega (arith, count, (were_taken c.requires.0 _ _ _ _ _ _ c.requires.1 c.args.rd c.requires.2 low c.requires.3).0)

pub overflow_sub-self : goal.overflow_sub-self
overflow_sub-self c =
    let low : c.args.rd < 32 = omega (arith, c.number-r.ensures.value, c.number-r.ensures.bound) in
    omega (arith, c.weight.ensures.value, (were_taken c.requires.0 _ _ _ _ _ _ c.requires.1 c.args.rd c.requires.2 low c.requires.3).1)

pub free_share-requires-clause-taken : goal.free_share-requires-clause-taken
free_share-requires-clause-taken c =
    let low : c.args.rd < 32 = omega (arith, c.number-r.ensures.value, c.number-r.ensures.bound) in
    let share : c.index-share.result.now ≡ get_or c.args.self.now.shares.items c.args.rd None = read_at c.args.self.now.shares.items c.number-r.result c.args.rd c.index-share.result.now None c.index-share.ensures c.number-r.ensures.value (omega (arith, low, c.args.self.now.shape.shares)) in
    rw share (share_taken c.requires.0 _ _ _ _ _ _ c.requires.1 c.args.rd c.requires.2 low c.requires.3)
