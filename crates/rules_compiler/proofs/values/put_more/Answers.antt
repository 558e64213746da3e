use Rattle.std.proofs.Common.{rules, ◌≡◌, ◌+◌, ◌++◌, arith}
use Rattle.rules_compiler.specs.Terms.{append_byte}
use Rattle.rules_compiler.proofs.Lengths.{more_step, more_end}
use Rattle.rules_compiler.proofs.values.put_more.Goals as goal

pub loop-k-preserved : goal.loop-k-preserved
loop-k-preserved c =
    let next : c.extend_from_slice.new.self.items ≡ c.loop-k.code.items ++ append_byte (c.args.place + c.loop-k.k) =
    first_of (cc, search rules) in
    more_step _ c.loop-k.code.items c.extend_from_slice.new.self.items c.args.place c.args.count c.loop-k.k
    (omega arith) c.loop-k.invariant next

pub returns : goal.returns
returns c = more_end _ c.loop-k.code.items c.args.place c.args.count c.loop-k.k (omega arith) c.loop-k.invariant
