use Rattle.std.proofs.Common.{◌≡◌, ◌++◌, arith, rules}
use Rattle.bpf_isa.specs.Spelling.{spelling}
use Rattle.bpf_isa.proofs.Writing.{spelled_more, spelled_all, spelled_is, spelled_code}
use Rattle.bpf_isa.proofs.encoding.encode.Goals as goal

pub loop-k-preserved : goal.loop-k-preserved
loop-k-preserved c =
    let put : c.put.new.out.items ≡ c.loop-k.out.items ++ spelling c.instr.result = search rules in
    rw (put, c.loop-k.invariant) (spelled_more c.args.code.now c.loop-k.k c.instr.result c.instr.ensures.is_at)

pub returns-clause-is_code : goal.returns-clause-is_code
returns-clause-is_code c =
    let whole = spelled_all c.args.code.now c.loop-k.k c.loop-k.out.items (omega arith) c.loop-k.invariant in
    spelled_code c.args.code.now c.loop-k.out.items whole c.len-count.ensures.has_image

pub returns-clause-only : goal.returns-clause-only
returns-clause-only c =
    let whole = spelled_all c.args.code.now c.loop-k.k c.loop-k.out.items (omega arith) c.loop-k.invariant in
    λ image. spelled_is c.args.code.now c.loop-k.out.items image whole
