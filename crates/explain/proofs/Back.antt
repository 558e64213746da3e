-- Where a register was lost, one step back after another.
use Rattle.std.proofs.Common.{◌≡◌, ℕ, suc, ◌+◌, ◌-◌, ◌<◌, ◌≤◌, List, None, ap, arith}
use Rattle.machine_spec.specs.declared.{helper.Table.Table, instruction.Placed.Placed}
use Rattle.verifier_spec.specs.Annotation.{Claims}
use Rattle.explain.specs.Meetings.{after_step, step, lost_within}

module _ (table : Table) (code : List Placed) (claims : Claims) (r : ℕ) where
  next_within : (left more j : ℕ) → left ≡ suc more →
      lost_within table code claims r left j ≡ after_step (lost_within table code claims r more)
      (step table code claims r j)
  unfolding lost_within
  next_within left more j e = ap (λ (n : ℕ). lost_within table code claims r n j) e

  pub one_back : (total n j : ℕ) → n < total →
      lost_within table code claims r (total - n) j
      ≡ after_step (lost_within table code claims r (total - (n + 1))) (step table code claims r j)
  one_back total n j below = next_within (total - n) (total - (n + 1)) j (omega arith)

  nothing_left : (left j : ℕ) → left ≡ 0 → lost_within table code claims r left j ≡ None
  unfolding lost_within
  nothing_left left j e = ap (λ (n : ℕ). lost_within table code claims r n j) e

  pub none_left : (total n j : ℕ) → total ≤ n → lost_within table code claims r (total - n) j ≡ None
  none_left total n j past = nothing_left (total - n) j (omega arith)

  pub all_left : (total j : ℕ) → lost_within table code claims r (total - 0) j ≡ lost_within table code claims r total j
  all_left total j = ap (λ (n : ℕ). lost_within table code claims r n j)
      (let all : total - 0 ≡ total = omega arith in all)
