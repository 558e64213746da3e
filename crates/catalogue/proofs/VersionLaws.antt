-- Versions of names: the newest of several, and what is kept of each name.
use Rattle.std.proofs.Common.{◌≡◌, ℕ, zero, suc, ◌<◌, Bool, true, false, List, [], ◌∷◌, ◌++◌, length, take, get_or, set}
use Rattle.std.proofs.Common.{refl, sym, ap, subst, inl, inr, ◌∙◌, arith, ◌≢◌, nat_lt, Some, None, Option, Result, Ok}
use Rattle.std.proofs.Common.{Err, IfOk, OnOk, OnErr, if◌then◌else◌}
use Rattle.std.proofs.{lemmas.Bool.Decides.nat_tests, lemmas.Slice.Eq.bytes_eq-Decides}
use Rattle.std.proofs.lemmas.Bool.{cases_Bool, cond_both, false_from_ne_true}
use Rattle.std.specs.{Str.bytes_eq, declared.sync.Arc.Arc}
use Rattle.machine_spec.specs.Image.{Program}
use Rattle.log_item.specs.declared.program.Program.{Program as Loaded}
use Rattle.catalogue.specs.declared.fault.CatFault.{CatFault}
use Rattle.log_spec.specs.Catalogue.{Version, among, with_version}
use Rattle.catalogue.specs.Versions.{number_and_program, under_name, newer, SeesNewest, Keeps, IsNoOlder}

none_split : (b : Bool) (x : ℕ × Program) (y : Option (ℕ × Program)) → (if b then Some x else y) ≡ None →
    (b ≡ false) × (y ≡ None)
none_split true x y e = absurd cc
none_split false x y e = (refl, e)

pub among-next : (seen : List Version) (i : ℕ) (d : Version) (name : List ℕ) → i < length seen →
    among (take i seen) name ≡ None → bytes_eq (get_or seen i d).name name ≡ false →
    among (take (suc i) seen) name ≡ None
among-next [] i d name lt h e = absurd (omega arith)
among-next (version ∷ seen) zero d name lt h e = rw e refl
among-next (version ∷ seen) (suc i) d name lt h e =
    let p = none_split (bytes_eq version.name name) (version.number, version.program) (among (take i seen) name) h in
    let below : i < length seen = omega arith in
    rw p.0 (among-next seen i d name below p.1 e)

pub among-found : (seen : List Version) (i : ℕ) (d : Version) (name : List ℕ) → i < length seen →
    among (take i seen) name ≡ None → bytes_eq (get_or seen i d).name name ≡ true →
    among seen name ≡ Some ((get_or seen i d).number, (get_or seen i d).program)
among-found [] i d name lt h e = absurd (omega arith)
among-found (version ∷ seen) zero d name lt h e = rw e refl
among-found (version ∷ seen) (suc i) d name lt h e =
    let p = none_split (bytes_eq version.name name) (version.number, version.program) (among (take i seen) name) h in
    let below : i < length seen = omega arith in
    rw p.0 (among-found seen i d name below p.1 e)

pub bytes_eq-same : (xs ys : List ℕ) → xs ≡ ys → bytes_eq xs ys ≡ true
bytes_eq-same xs ys e = (bytes_eq-Decides xs ys).1 e

pub bytes_eq-different : (xs ys : List ℕ) → xs ≢ ys → bytes_eq xs ys ≡ false
bytes_eq-different xs ys ne = false_from_ne_true (bytes_eq xs ys) (λ e. ne ((bytes_eq-Decides xs ys).0 e))

pub same_bytes : (xs ys : List ℕ) → bytes_eq xs ys ≡ true → xs ≡ ys
same_bytes xs ys e = (bytes_eq-Decides xs ys).0 e

-- ---- putting a version in

pub with_version-set : (list : List Version) (i : ℕ) (d version : Version) → i < length list →
    among (take i list) version.name ≡ None → bytes_eq (get_or list i d).name version.name ≡ true →
    set list i version ≡ with_version list version
with_version-set [] i d version lt h e = absurd (omega arith)
with_version-set (first ∷ list) zero d version lt h e = rw e refl
with_version-set (first ∷ list) (suc i) d version lt h e =
    let p = none_split (bytes_eq first.name version.name) (first.number, first.program)
    (among (take i list) version.name) h in
    let below : i < length list = omega arith in
    rw p.0 (ap (λ (rest : List Version). first ∷ rest) (with_version-set list i d version below p.1 e))

pub with_version-push : (list : List Version) (version : Version) → among list version.name ≡ None →
    list ++ version ∷ [] ≡ with_version list version
with_version-push [] version h = refl
with_version-push (first ∷ list) version h =
    let p = none_split (bytes_eq first.name version.name) (first.number, first.program) (among list version.name) h in
    rw p.0 (ap (λ (rest : List Version). first ∷ rest) (with_version-push list version p.1))

pub among-with_version : (list : List Version) (version : Version) →
    among (with_version list version) version.name ≡ Some (version.number, version.program)
among-with_version [] version = rw (bytes_eq-same version.name version.name refl) refl
among-with_version (first ∷ list) version =
    elim (cases_Bool (bytes_eq first.name version.name)) [
      | inl e ↦ rw (e, bytes_eq-same version.name version.name refl) refl
      | inr e ↦ rw (e, e) (among-with_version list version)
    ]

pub among-with_version_other : (list : List Version) (version : Version) (other : List ℕ) → other ≢ version.name
    → among (with_version list version) other ≡ among list other
among-with_version_other list version other ne = go list
  where
    mine : bytes_eq version.name other ≡ false
    mine = bytes_eq-different version.name other (λ same. ne (sym same))

    go : (list : List Version) → among (with_version list version) other ≡ among list other
    go [] = rw mine refl
    go (first ∷ list) =
        elim (cases_Bool (bytes_eq first.name version.name)) [
          | inl e ↦
              let its : bytes_eq first.name other ≡ false =
              subst (λ (n : List ℕ). bytes_eq n other ≡ false) (sym (same_bytes first.name version.name e)) mine in
              rw (e, mine, its) refl
          | inr e ↦ rw e (ap (λ (rest : Option (ℕ × Program)). if bytes_eq first.name other then Some
              (first.number, first.program) else rest) (go list))
        ]

pub keeps : (old new : List Version) (version : Version) (name : List ℕ) → version.name ≡ name →
    new ≡ with_version old version → Keeps old new name (version.number, version.program)
keeps old new version name named e = record {
  kept = subst (λ (n : List ℕ). among new n ≡ Some (version.number, version.program)) named
      (ap (λ (list : List Version). among list version.name) e ∙ among-with_version old version);
  others = λ other ne.
      ap (λ (list : List Version). among list other) e
      ∙ among-with_version_other old version other (λ same. ne (same ∙ named));
}

-- the same of a call that may fail
pub keeps-put : {A E : Type 0} (old new : List Version) (version : Version) (name named : List ℕ) (number : ℕ)
    (program : Program) (result : Result A E)
    → OnOk result (new ≡ with_version old version) →
    version ≡ record { name = named; number = number; program = program } → named ≡ name
    → OnOk result (Keeps old new name (number, program))
keeps-put old new version name named number program (Ok done) put is same =
    subst (λ (v : Version). Keeps old new name (v.number, v.program)) is
    (keeps old new version name (ap (λ (v : Version). v.name) is ∙ same) put)
keeps-put old new version name named number program (Err failed) put is same = tt

-- ---- no version goes back

no_older-same : (version : Option (ℕ × Program)) → IsNoOlder version version
no_older-same None = tt
no_older-same (Some version) = omega arith

no_older-through : (first second third : Option (ℕ × Program)) → IsNoOlder first second → IsNoOlder second third →
    IsNoOlder first third
no_older-through None second third h k = tt
no_older-through (Some first) None third h k = absurd h
no_older-through (Some first) (Some second) None h k = absurd k
no_older-through (Some first) (Some second) (Some third) h k = omega arith

no_older-first : (first second : Option (ℕ × Program)) → IsNoOlder first (newer first second)
no_older-first None second = tt
no_older-first (Some first) None = omega arith
no_older-first (Some first) (Some second) =
    cond_both (nat_lt first.0 second.0) (Some second) (Some first)
    (λ (found : Option (ℕ × Program)). IsNoOlder (Some first) found)
    (λ lt. grind (arith, nat_tests)) (λ ge. omega arith)

no_older-second : (first second : Option (ℕ × Program)) → IsNoOlder second (newer first second)
no_older-second None None = tt
no_older-second None (Some second) = omega arith
no_older-second (Some first) None = tt
no_older-second (Some first) (Some second) =
    cond_both (nat_lt first.0 second.0) (Some second) (Some first)
    (λ (found : Option (ℕ × Program)). IsNoOlder (Some second) found)
    (λ lt. omega arith) (λ ge. grind (arith, nat_tests))

pub never_back : (known : Version) (name : List ℕ) (read : Option (ℕ × Program)) (old new : List Version)
    (found : Option (ℕ × Program)) → SeesNewest known name read old new found → (other : List ℕ) →
    IsNoOlder (among old other) (among new other)
never_back known name read old new found finds other =
    let before = among old name in let mine = under_name known name in
    let here : IsNoOlder before found =
    subst (λ (last : Option (ℕ × Program)). IsNoOlder before last) (sym finds.newest)
    (no_older-through before (newer mine before) (newer (newer mine before) read) (no_older-second mine before)
    (no_older-first (newer mine before) read)) in
    elim (cases_Bool (bytes_eq other name)) [
      | inl e ↦
          let same = same_bytes other name e in
          subst (λ (n : List ℕ). IsNoOlder (among old n) (among new n)) (sym same)
          (subst (λ (last : Option (ℕ × Program)). IsNoOlder before last) (sym finds.seen) here)
      | inr e ↦
          let different : other ≢ name = λ same. absurd (cc (e, bytes_eq-same other name same)) in
          subst (λ (last : Option (ℕ × Program)). IsNoOlder (among old other) last) (sym (finds.others other different))
          (no_older-same (among old other))
    ]

-- ---- what is known is found

-- the same of a call that fails, too
pub never_back-result : {Z : Type 0} (known : Version) (name : List ℕ) (read : Option (ℕ × Program))
    (old new : List Version) (result : Result (Option (ℕ × Arc Loaded Z)) CatFault) →
    IfOk result (λ found. SeesNewest known name read old new (number_and_program found)) → OnErr result (new ≡ old) →
    (other : List ℕ) → IsNoOlder (among old other) (among new other)
never_back-result known name read old new (Ok found) ok err other =
    never_back known name read old new (number_and_program found) ok other
never_back-result known name read old new (Err fault) ok err other =
    subst (λ (seen : List Version). IsNoOlder (among old other) (among seen other)) (sym err)
    (no_older-same (among old other))
