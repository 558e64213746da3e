-- A load of the live catalogue is the core's.
use Rattle.std.proofs.Common.{◌≡◌, ℕ, ◌+◌, Bool, true, false, List, [], ◌∷◌, ◌++◌, length, refl, sym, ap, subst, inl}
use Rattle.std.proofs.Common.{inr, ◌∙◌, arith, length-append, ◌≢◌, Option, Some, None, Result, Ok, Err, is_none, not}
use Rattle.std.specs.Str.{bytes_eq}
use Rattle.std.proofs.lemmas.Bool.{cases_Bool}
use Rattle.machine_spec.specs.{Image.Program, Image.program_of, declared.helper.Table.Table}
use Rattle.log_spec.specs.{declared.event.Reply.TheVariants.Loaded, Worlds.World, declared.event.Refusal.Refusal}
use Rattle.log_spec.specs.declared.event.Refusal.TheVariants as refusal
use Rattle.log_spec.specs.Catalogue.{ProgramTable, Entry, Version, LiveTable, IsLast, IsLive, among, count_of, has_name}
use Rattle.log_spec.specs.Catalogue.{programs_of, with_program, with_version, name_refusal, live_refusal, first_refusal}
use Rattle.log_spec.specs.Catalogue.{IsFirstRefusal, IsLoadRefusal, IsLiveRefusal}
use Rattle.catalogue.specs.{declared.fault.CatFault.CatFault, Faults.IsFaultOf, Catalogues.Publishes}
use Rattle.catalogue.specs.{CoreTie.refusal_for, CoreTie.DoesInCore}
use Rattle.catalogue.specs.declared.fault.CatFault.TheVariants as fault
use Rattle.catalogue.proofs.VersionLaws.{same_bytes}

-- a fault that isn't for memory has a refusal behind it
pub first_refusal_is : (table : LiveTable) (name : List ℕ) (program : Program) (reported : CatFault) →
    reported ≢ fault.Memory → IsFaultOf table name program reported →
    (first : Refusal) × (refusal_for reported ≡ Some first) × IsLiveRefusal table name program (Some first)
first_refusal_is table name program fault.Name ne h = (refusal.Name, refl, h)
first_refusal_is table name program fault.Full ne h = (refusal.Full, refl, h)
first_refusal_is table name program (fault.Load why) ne h = (refusal.Load why, refl, h)
first_refusal_is table name program fault.NoReader ne h = absurd h
first_refusal_is table name program fault.Versions ne h = (refusal.Versions, refl, h)
first_refusal_is table name program fault.Memory ne h = absurd (ne refl)

-- ---- what both tables have in common

same_length : (table : ProgramTable) (live : LiveTable) → IsLive table live → length live ≡ length table
same_length [] [] is = refl
same_length [] (version ∷ live) is = absurd is
same_length (entry ∷ table) [] is = absurd is
same_length (entry ∷ table) (version ∷ live) is = omega (arith, same_length table live is.1)

same_count : (table : ProgramTable) (live : LiveTable) (name : List ℕ) → IsLive table live →
    count_of (among live name) ≡ length (programs_of table name)
same_count [] [] name is = refl
same_count [] (version ∷ live) name is = absurd is
same_count (entry ∷ table) [] name is = absurd is
same_count (entry ∷ table) (version ∷ live) name is =
    elim (cases_Bool (bytes_eq entry.name name)) [
      | inl e ↦ rw (is.0.name_is, e) is.0.number_is
      | inr e ↦ rw (is.0.name_is, e) (same_count table live name is.1)
    ]

same_name : (table : ProgramTable) (live : LiveTable) (name : List ℕ) → IsLive table live →
    not (is_none (among live name)) ≡ has_name table name
same_name [] [] name is = refl
same_name [] (version ∷ live) name is = absurd is
same_name (entry ∷ table) [] name is = absurd is
same_name (entry ∷ table) (version ∷ live) name is =
    elim (cases_Bool (bytes_eq entry.name name)) [
      | inl e ↦ rw (is.0.name_is, e) refl
      | inr e ↦ rw (is.0.name_is, e) (same_name table live name is.1)
    ]

same_refusal : (table : ProgramTable) (live : LiveTable) (name : List ℕ) → IsLive table live →
    live_refusal live name ≡ name_refusal table name
same_refusal table live name is =
    ap (λ (b : Bool). first_refusal b (length live) (count_of (among live name)) name) (same_name table live name is)
    ∙ (ap (λ (n : ℕ). first_refusal (has_name table name) n (count_of (among live name)) name)
    (same_length table live is)
    ∙ ap (λ (n : ℕ). first_refusal (has_name table name) (length table) n name) (same_count table live name is))

pub refused_alike : (table : ProgramTable) (live : LiveTable) (name : List ℕ) (program : Program)
    (first : Option Refusal) →
    IsLive table live → IsLiveRefusal live name program first → IsLoadRefusal table name program first
refused_alike table live name program first is h =
    subst (λ (early : Option Refusal). IsFirstRefusal early program first) (same_refusal table live name is) h

pub next_number : (table : ProgramTable) (live : LiveTable) (name : List ℕ) → IsLive table live →
    count_of (among live name) + 1 ≡ length (programs_of table name) + 1
next_number table live name is = ap (λ (n : ℕ). n + 1) (same_count table live name is)

-- ---- what a load leaves

in_place : (entry : Entry) (version : Version) (table : ProgramTable) (live : LiveTable)
    (name : List ℕ) (program : Program)
    (number : ℕ) → bytes_eq entry.name name ≡ true
    → IsLast entry version → IsLive table live → number ≡ length (programs_of (entry ∷ table) name) + 1
    → IsLive (with_program (entry ∷ table) name program)
    (with_version (version ∷ live) (record { name = name; number = number; program = program }))
in_place entry version table live name program number f last rest e =
    let programs : programs_of (entry ∷ table) name ≡ entry.programs = rw f refl in
    let count : number ≡ length entry.programs + 1 = e ∙ ap (λ (list : List Program). length list + 1) programs in
    let same : bytes_eq version.name name ≡ true = ap (λ (n : List ℕ). bytes_eq n name) last.name_is ∙ f in
    let named : name ≡ entry.name = sym (same_bytes entry.name name f) in
    let longer : number ≡ length (entry.programs ++ program ∷ []) =
    omega (arith, count, length-append entry.programs (program ∷ [])) in
    rw (f, same) (record { name_is = named; number_is = longer; earlier = entry.programs; program_is = refl }, rest)

further : (entry : Entry) (version : Version) (table : ProgramTable) (live : LiveTable)
    (name : List ℕ) (program : Program)
    (number : ℕ) → bytes_eq entry.name name ≡ false
    → IsLast entry version → number ≡ length (programs_of (entry ∷ table) name) + 1
    → (number ≡ length (programs_of table name) + 1 →
    IsLive (with_program table name program) (with_version live
    (record { name = name; number = number; program = program })))
    → IsLive (with_program (entry ∷ table) name program)
    (with_version (version ∷ live) (record { name = name; number = number; program = program }))
further entry version table live name program number f last e rest =
    let programs : programs_of (entry ∷ table) name ≡ programs_of table name = rw f refl in
    let other : bytes_eq version.name name ≡ false = ap (λ (n : List ℕ). bytes_eq n name) last.name_is ∙ f in
    rw (f, other) (last, rest (e ∙ ap (λ (list : List Program). length list + 1) programs))

with_version-live : (table : ProgramTable) (live : LiveTable) (name : List ℕ) (program : Program) (number : ℕ) →
    IsLive table live → number ≡ length (programs_of table name) + 1
    → IsLive (with_program table name program) (with_version live
    (record { name = name; number = number; program = program }))
with_version-live [] [] name program number is e =
    (record { name_is = refl; number_is = e; earlier = []; program_is = refl }, tt)
with_version-live [] (version ∷ live) name program number is e = absurd is
with_version-live (entry ∷ table) [] name program number is e = absurd is
with_version-live (entry ∷ table) (version ∷ live) name program number is e =
    elim (cases_Bool (bytes_eq entry.name name)) [
      | inl f ↦ in_place entry version table live name program number f is.0 is.1 e
      | inr f ↦ further entry version table live name program number f is.0 e
          (with_version-live table live name program number is.1)
    ]

-- ---- a load in the core

pub does_in_core : (w : World) (name image : List ℕ) (table : Table) (live next : LiveTable)
    (result : Result (ℕ × Version) CatFault) → IsLive w.table live →
    Publishes live name (program_of image table) result next → DoesInCore w name image table live result next
does_in_core w name image table live next (Ok loaded) is h =
    let numbered : loaded.0 ≡ length (programs_of w.table name) + 1 =
    h.2 ∙ (ap (λ (v : Version). v.number) h.1 ∙ next_number w.table live name is) in
    let made = with_version-live w.table live name (program_of image table) (count_of (among live name) + 1) is
    (next_number w.table live name is) in (
      refused_alike w.table live name (program_of image table) None is h.0,
      (ap Loaded numbered, refl),
      subst (λ (t : LiveTable). IsLive (with_program w.table name (program_of image table)) t)
          (sym (h.3 ∙ ap (λ (v : Version). with_version live v) h.1)) made,
    )
does_in_core w name image table live next (Err reported) is h = (
  h.1,
  λ ne.
      let first = first_refusal_is live name (program_of image table) reported ne h.0 in
      (first.0, first.1, refused_alike w.table live name (program_of image table) (Some first.0) is first.2),
)
