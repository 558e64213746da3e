-- A load keeps what a table always keeps.
use Rattle.std.proofs.Common.{◌≡◌, ℕ, suc, ◌+◌, ◌-◌, ◌^◌, ◌<◌, ◌≤◌, Bool, true, false, cond, List, [], ◌∷◌, ◌++◌}
use Rattle.std.proofs.Common.{length, Option, Some, None, Result, Ok, Err, refl, sym, ap, subst, ◌⊎◌, inl, inr, arith}
use Rattle.std.proofs.Common.{not, ◌&&◌, ◌||◌, nat_le}
use Rattle.std.specs.{List.AllByRecursion, Str.bytes_eq}
use Rattle.std.proofs.{lemmas.Bool.leb-false, lemmas.List.length-append}
use Rattle.machine_spec.specs.Image.{Program}
use Rattle.log_spec.specs.declared.event.Refusal.{Refusal}
use Rattle.log_spec.specs.declared.event.Refusal.TheVariants as refusal
use Rattle.log_spec.specs.Catalogue.{ProgramTable, Entry as Loaded, programs_of, has_name, is_name, with_program}
use Rattle.log_spec.specs.Catalogue.{IsFirstRefusal, IsLoadRefusal}
use Rattle.program_table.specs.Tables.{IsTable, LoadsInto}

abbrev HasSome : Loaded → Type 0
HasSome entry = 1 ≤ length entry.programs

abbrev HasFew : Loaded → Type 0
HasFew entry = length entry.programs ≤ 2 ^ 32 - 1

abbrev loaded_again : Loaded → Program → Loaded
loaded_again entry program = record { name = entry.name; programs = entry.programs ++ program ∷ [] }

-- ---- what a load that is not refused finds

by_tests : (form known full used : Bool) →
    cond (not form) (Some refusal.Name) (cond (not known && full) (Some refusal.Full)
    (cond used (Some refusal.Versions) None)) ≡ None → ((known ≡ true) ⊎ (full ≡ false)) × (used ≡ false)
by_tests false known full used e = absurd cc
by_tests true true full true e = absurd cc
by_tests true true full false e = (inl refl, refl)
by_tests true false true used e = absurd cc
by_tests true false false true e = absurd cc
by_tests true false false false e = (inr refl, refl)

none_earlier : (earlier : Option Refusal) (program : Program) → IsFirstRefusal earlier program None → earlier ≡ None
none_earlier (Some early) program h = h
none_earlier None program h = refl

allowed : (table : ProgramTable) (name : List ℕ) (program : Program) → IsLoadRefusal table name program None →
    ((has_name table name ≡ true) ⊎ (nat_le 64 (length table) ≡ false))
    × (nat_le (2 ^ 32 - 1) (length (programs_of table name)) ≡ false)
allowed table name program h =
    by_tests (is_name name) (has_name table name) (nat_le 64 (length table))
    (nat_le (2 ^ 32 - 1) (length (programs_of table name))) (none_earlier _ program h)

-- ---- one more program

length-known : (table : ProgramTable) (name : List ℕ) (program : Program) → has_name table name ≡ true →
    length (with_program table name program) ≡ length table
length-known [] name program h = absurd cc
length-known (entry ∷ table) name program h = by (bytes_eq entry.name name) (λ e. length-known table name program e) h
  where
    by : (b : Bool) → (has_name table name ≡ true → length (with_program table name program) ≡ length table) →
        (b || has_name table name) ≡ true →
        length (cond b (loaded_again entry program ∷ table) (entry ∷ with_program table name program))
        ≡ suc (length table)
    by true rest h = refl
    by false rest h = ap suc (rest h)

length-most : (table : ProgramTable) (name : List ℕ) (program : Program) →
    length (with_program table name program) ≤ length table + 1
length-most [] name program = omega arith
length-most (entry ∷ table) name program = by (bytes_eq entry.name name) (length-most table name program)
  where
    by : (b : Bool) → length (with_program table name program) ≤ length table + 1 →
        length (cond b (loaded_again entry program ∷ table) (entry ∷ with_program table name program)) ≤ suc
        (length table) + 1
    by true rest = omega arith
    by false rest = omega arith

some-kept : (table : ProgramTable) (name : List ℕ) (program : Program) → AllByRecursion HasSome table →
    AllByRecursion HasSome (with_program table name program)
some-kept [] name program all = (omega arith, tt)
some-kept (entry ∷ table) name program all = by (bytes_eq entry.name name) (some-kept table name program all.1)
  where
    by : (b : Bool) → AllByRecursion HasSome (with_program table name program) →
        AllByRecursion HasSome (cond b (loaded_again entry program ∷ table) (entry ∷ with_program table name program))
    by true rest = (omega (arith, length-append entry.programs (program ∷ [])), all.1)
    by false rest = (all.0, rest)

few-kept : (table : ProgramTable) (name : List ℕ) (program : Program) → length (programs_of table name) < 2 ^ 32 - 1 →
    AllByRecursion HasFew table → AllByRecursion HasFew (with_program table name program)
few-kept [] name program lt all = (omega arith, tt)
few-kept (entry ∷ table) name program lt all =
    by (bytes_eq entry.name name) lt (λ lt. few-kept table name program lt all.1)
  where
    by : (b : Bool) → length (cond b entry.programs (programs_of table name)) < 2 ^ 32 - 1 →
        (length (programs_of table name) < 2 ^ 32 - 1 → AllByRecursion HasFew (with_program table name program)) →
        AllByRecursion HasFew (cond b (loaded_again entry program ∷ table) (entry ∷ with_program table name program))
    by true lt rest = (omega (arith, length-append entry.programs (program ∷ [])), all.1)
    by false lt rest = (all.0, rest lt)

names-kept : (table : ProgramTable) (name : List ℕ) (program : Program) → length table ≤ 64 →
    (has_name table name ≡ true) ⊎ (nat_le 64 (length table) ≡ false) → length (with_program table name program) ≤ 64
names-kept table name program le (inl known) = omega (arith, length-known table name program known)
names-kept table name program le (inr room) =
    omega (arith, length-most table name program, leb-false 64 (length table) room)

-- after a load, or its refusal
pub is_table-loaded : (table next : ProgramTable) (name : List ℕ) (program : Program) (result : Result ℕ Refusal) →
    IsTable table → LoadsInto table name program result next → IsTable next
is_table-loaded table next name program (Ok version) is loads =
    let free = allowed table name program loads.0 in
    subst IsTable (sym loads.2) (record {
      names = names-kept table name program is.names free.0;
      some = some-kept table name program is.some;
      few = few-kept table name program (leb-false (2 ^ 32 - 1) (length (programs_of table name)) free.1) is.few;
    })
is_table-loaded table next name program (Err refused) is loads = subst IsTable (sym loads.1) is
