use Rattle.std.proofs.Common.{rules}
use Rattle.batch.proofs.Written.{front_is}
use Rattle.batch.proofs.writing.put_front.Goals as goal

pub returns : goal.returns
returns c =
    front_is c.args.batch.now c.args.size c.args.out.now.items c.put_i64.new.out.items c.put_u32.new.out.items
    c.put_i32.new.out.items c.push.new.self.items c.put_u32-2.new.out.items (search rules) (search rules)
    c.in_ok-put_i64.ensures c.in_ok-put_u32.ensures c.in_ok-put_i32.ensures c.in_ok-push.ensures.items
    c.in_ok-put_u32-2.ensures
