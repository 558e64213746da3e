use Rattle.std.proofs.Common.{rules}
use Rattle.batch.proofs.Written.{header_is}
use Rattle.batch.proofs.writing.put_header.Goals as goal

pub returns : goal.returns
returns c =
    header_is c.args.batch.now c.args.greatest c.args.count c.args.out.now.items c.put_i16.new.out.items
    c.put_u32.new.out.items c.put_i64.new.out.items c.put_i64-2.new.out.items c.put_i64-3.new.out.items
    c.put_i16-2.new.out.items c.put_i32.new.out.items c.put_u32-2.new.out.items (search rules) c.ranges.greatest
    (search rules) (search rules) (search rules)
    c.in_ok-put_i16.ensures c.in_ok-put_u32.ensures c.in_ok-put_i64.ensures c.in_ok-put_i64-2.ensures
    c.in_ok-put_i64-3.ensures c.in_ok-put_i16-2.ensures c.in_ok-put_i32.ensures c.in_ok-put_u32-2.ensures
