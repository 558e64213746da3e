use Rattle.std.proofs.Common.{◌≡◌, length, rules}
use Rattle.bpf_isa.proofs.Reading.{entered, entered_length, table_enter}
use Rattle.bpf_isa.proofs.decoding.push.Goals as goal

pub returns-clause-slots : goal.returns-clause-slots
returns-clause-slots c =
    let is : c.enter.new.numbers ≡ entered c.args.numbers.now c.len-number.result c.slots_of.result = search rules in
    rw (is, c.slots_of.ensures.is) (entered_length c.args.numbers.now c.len-number.result c.args.instruction)

pub returns-clause-table : goal.returns-clause-table
returns-clause-table c =
    let slot : c.len-slot.result ≡ length c.args.numbers.now = search rules in
    let number : c.len-number.result ≡ length c.args.placed.now = search rules in
    let is : c.enter.new.numbers ≡ entered c.args.numbers.now c.len-number.result c.slots_of.result = search rules in
    rw (c.in_ok-push.ensures, is, c.slots_of.ensures.is)
    (table_enter c.args.placed.now c.args.numbers.now _ _ c.args.instruction c.requires.table slot number)
