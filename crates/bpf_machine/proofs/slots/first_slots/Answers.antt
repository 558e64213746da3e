use Rattle.std.proofs.Common.{◌≡◌, ◌-◌, ◌+◌, ◌<◌, ◌||◌, suc, ap, ◌∙◌, length, slice_set, true, false, arith}
use Rattle.std.proofs.lemmas.List.{length-replicate, length-set}
use Rattle.machine_spec.specs.Image.{slot_count}
use Rattle.bpf_machine.specs.Views.{is_marked}
use Rattle.bpf_machine.proofs.Walks.{comes, comes_first, comes_past, none_marked, marks_on, marks_all}
use Rattle.bpf_machine.proofs.slots.first_slots.Goals as goal
use Rattle.bpf_machine.proofs.slots.first_slots.Goals.{else-loop-steps-test, then-loop-steps-test+then-slot-slots}

pub loop-steps-init : goal.loop-steps-init
loop-steps-init c =
    let image = c.args.image.now in
    let count = c.slot_count-slots.result in
    let all : slot_count image - 0 ≡ slot_count image = omega arith in
    let blank = c.in_ok-marks.ensures.items_if_clones_equal (λ y is. is) in
    record {
      size = ap length blank ∙ length-replicate count false ∙ c.slot_count-slots.ensures.is_count;
      each = λ t. ap (λ m. is_marked m t || comes image t (slot_count image - 0) 0) blank
          ∙ ap (λ b. b || comes image t (slot_count image - 0) 0) (none_marked count t)
          ∙ ap (λ n. comes image t n 0) all ∙ comes_first image t;
    }

pub loop-steps-preserved : goal.loop-steps-preserved
loop-steps-preserved c =
    let l = c.loop-steps in
    let image = c.args.image.now in
    let count = slot_count image in
    let steps = count - (l._steps + 1) in
    let more : count - l._steps ≡ suc steps = omega arith in
    let within : l.slot < count = omega arith in
    let inside : l.slot < length l.marks.items = omega (arith, l.invariant.size) in
    record {
      size = length-set l.marks.items l.slot true ∙ l.invariant.size;
      each = λ t. ap (λ s. is_marked (slice_set l.marks.items l.slot true) t || comes image t steps s)
          c.slot_after-slot.ensures
          ∙ marks_on image t l.marks.items steps (count - l._steps) l.slot more within inside (l.invariant.each t);
    }

pub returns : goal.returns
returns c =
    let l = c.loop-steps in
    let image = c.args.image.now in
    let left = slot_count image - l._steps in
    elim c.loop-steps-test.branch [
      | else-loop-steps-test w ↦ record {
        each = λ t.
            let none : left ≡ 0 = omega (arith, w.loop-steps-test) in
            marks_all image t l.marks.items left l.slot (ap (λ n. comes image t n l.slot) none) (l.invariant.each t);
      }
      | then-loop-steps-test+then-slot-slots w ↦ record {
        each = λ t. marks_all image t l.marks.items left l.slot
            (comes_past image t left l.slot (omega (arith, w.if-slot-slots))) (l.invariant.each t);
      }
    ]
