-- Finding a name among the entries of the catalogue.
use Rattle.std.proofs.Common.{◌≡◌, ℕ, zero, suc, ◌<◌, ◌≤◌, true, false, List, [], ◌∷◌, ◌++◌, length, take, get_or}
use Rattle.std.proofs.Common.{set, map, refl, sym, ap, subst, ◌∙◌, arith, ◌||◌, ◌==◌, ◌-◌, ◌^◌, ◌≢◌, nat_le, slice_get}
use Rattle.std.proofs.Common.{option_map, Some, None, Option}
use Rattle.std.proofs.{lemmas.Bool.Decides.nat_tests, lemmas.List.length-map, lemmas.List.map_push}
use Rattle.std.proofs.lemmas.Option.{slice_get-map, slice_get_read, slice_get_past}
use Rattle.machine_spec.specs.Image.{Program}
use Rattle.log_spec.specs.declared.event.Refusal.{Refusal}
use Rattle.log_spec.specs.declared.event.Refusal.TheVariants as refusal
use Rattle.std.specs.{Arc.arc_value, Str.bytes_eq}
use Rattle.log_spec.specs.Catalogue.{ProgramTable, programs_of, program_named, with_program, has_name, is_name}
use Rattle.log_spec.specs.Catalogue.{name_refusal, IsProgramRefusal, IsFirstRefusal, IsLoadRefusal, Entry as Loaded}
use Rattle.program_table.specs.declared.table.Entry.{Entry}
use Rattle.program_table.specs.Tables.{entry_view, table_view, version_of}
use Rattle.std.proofs.lemmas.Bool.{or_parts}

pub programs_of-found : (entries : List Entry) (i : ℕ) (d : Entry) (name : List ℕ) → i < length entries →
    has_name (table_view (take i entries)) name ≡ false → bytes_eq (get_or entries i d).name name ≡ true →
    programs_of (table_view entries) name ≡ map (λ program. arc_value program) (get_or entries i d).programs.items
programs_of-found [] i d name lt h e = absurd (omega arith)
programs_of-found (entry ∷ entries) zero d name lt h e = rw e refl
programs_of-found (entry ∷ entries) (suc i) d name lt h e =
    let p = or_parts (bytes_eq entry.name name) (has_name (table_view (take i entries)) name) h in
    let below : i < length entries = omega arith in
    rw p.0 (programs_of-found entries i d name below p.1 e)

pub has_name-found : (entries : List Entry) (i : ℕ) (d : Entry) (name : List ℕ) → i < length entries
    → bytes_eq (get_or entries i d).name name ≡ true → has_name (table_view entries) name ≡ true
has_name-found [] i d name lt e = absurd (omega arith)
has_name-found (entry ∷ entries) zero d name lt e = rw e refl
has_name-found (entry ∷ entries) (suc i) d name lt e =
    let below : i < length entries = omega arith in
    let later : has_name (table_view entries) name ≡ true = has_name-found entries i d name below e in
    rw later (elim (bytes_eq entry.name name) as (λ b. (b || true) ≡ true) [ true ↦ refl | false ↦ refl ])

pub with_program-found : (entries : List Entry) (i : ℕ) (d changed : Entry) (name : List ℕ) (program : Program) →
    i < length entries → has_name (table_view (take i entries)) name ≡ false →
    bytes_eq (get_or entries i d).name name ≡ true → changed.name ≡ (get_or entries i d).name →
    map (λ program. arc_value program) changed.programs.items
    ≡ map (λ program. arc_value program) (get_or entries i d).programs.items ++ program ∷ [] →
    with_program (table_view entries) name program ≡ table_view (set entries i changed)
with_program-found [] i d changed name program lt h e same more = absurd (omega arith)
with_program-found (entry ∷ entries) zero d changed name program lt h e same more =
    rw e (ap (λ (first : Loaded). first ∷ table_view entries) (sym
    (ap (λ (n : List ℕ). record { name = n; programs = map (λ program. arc_value program) changed.programs.items }) same
    ∙ ap (λ (programs : List Program). record { name = entry.name; programs = programs }) more)))
with_program-found (entry ∷ entries) (suc i) d changed name program lt h e same more =
    let p = or_parts (bytes_eq entry.name name) (has_name (table_view (take i entries)) name) h in
    let below : i < length entries = omega arith in
    rw p.0 (ap (λ (rest : ProgramTable). entry_view entry ∷ rest)
    (with_program-found entries i d changed name program below p.1 e same more))

pub programs_of-absent : (table : ProgramTable) (name : List ℕ) → has_name table name ≡ false →
    programs_of table name ≡ []
programs_of-absent [] name h = refl
programs_of-absent (entry ∷ table) name h =
    let p = or_parts (bytes_eq entry.name name) (has_name table name) h in
    rw p.0 (programs_of-absent table name p.1)

pub with_program-absent : (table : ProgramTable) (name : List ℕ) (program : Program) → has_name table name ≡ false
    → with_program table name program ≡ table ++ record { name = name; programs = program ∷ [] } ∷ []
with_program-absent [] name program h = refl
with_program-absent (entry ∷ table) name program h =
    let p = or_parts (bytes_eq entry.name name) (has_name table name) h in
    rw p.0 (ap (λ (rest : ProgramTable). entry ∷ rest) (with_program-absent table name program p.1))

-- ---- which refusal comes first

-- of a name that is loaded, after its form: its versions, then the program
pub refusal_named : (table : ProgramTable) (name : List ℕ) → is_name name ≡ true → has_name table name ≡ true →
    length (programs_of table name) < 2 ^ 32 - 1 → name_refusal table name ≡ None
refusal_named table name form named lt =
    let room : nat_le (2 ^ 32 - 1) (length (programs_of table name)) ≡ false = grind (arith, nat_tests) in
    rw (form, named, room) refl

pub refusal_versions : (table : ProgramTable) (name : List ℕ) → is_name name ≡ true → has_name table name ≡ true →
    2 ^ 32 - 1 ≤ length (programs_of table name) → name_refusal table name ≡ Some refusal.Versions
refusal_versions table name form named le =
    let full : nat_le (2 ^ 32 - 1) (length (programs_of table name)) ≡ true = grind (arith, nat_tests) in
    rw (form, named, full) refl

-- of a new name: whether there is room, then the program
pub refusal_new : (table : ProgramTable) (name : List ℕ) → is_name name ≡ true → has_name table name ≡ false →
    length table < 64 → name_refusal table name ≡ None
refusal_new table name form new lt =
    let room : nat_le 64 (length table) ≡ false = grind (arith, nat_tests) in
    rw (form, new, room, programs_of-absent table name new) refl

-- a refusal before the image is read is the load's
pub refused_early : (table : ProgramTable) (name : List ℕ) (program : Program) (early : Refusal) →
    name_refusal table name ≡ Some early → IsLoadRefusal table name program (Some early)
refused_early table name program early e =
    subst (λ (o : Option Refusal). IsFirstRefusal o program (Some early)) (sym e) refl

-- else the program's is
pub refused_program : (table : ProgramTable) (name : List ℕ) (program : Program) (first : Option Refusal) →
    name_refusal table name ≡ None → IsProgramRefusal program first → IsLoadRefusal table name program first
refused_program table name program first e h = subst (λ (o : Option Refusal). IsFirstRefusal o program first) (sym e) h

-- ---- what a load that changes an entry leaves

-- how many versions the name at a place has
pub versions_of-found : (entries : List Entry) (i : ℕ) (d : Entry) (name : List ℕ) → i < length entries →
    has_name (table_view (take i entries)) name ≡ false → bytes_eq (get_or entries i d).name name ≡ true →
    length (programs_of (table_view entries) name) ≡ length (get_or entries i d).programs.items
versions_of-found entries i d name lt h e =
    ap length (programs_of-found entries i d name lt h e)
    ∙ length-map (get_or entries i d).programs.items (λ program. arc_value program)

-- the programs of the name at a place of the entries that are a table
pub programs_here : (table : ProgramTable) (kept entries : List Entry) (i : ℕ) (d : Entry) (name : List ℕ) →
    table_view kept ≡ table → entries ≡ kept → i < length entries →
    has_name (table_view (take i entries)) name ≡ false → bytes_eq (get_or entries i d).name name ≡ true →
    programs_of table name ≡ map (λ program. arc_value program) (get_or entries i d).programs.items
programs_here table kept entries i d name is same lt h e =
    ap (λ (t : ProgramTable). programs_of t name) (sym is ∙ ap table_view (sym same))
    ∙ programs_of-found entries i d name lt h e

-- how many versions the name at a place has, and that nothing but its program is refused where there are fewer than
-- there can be
pub versions_here : (entries : List Entry) (i : ℕ) (d : Entry) (name : List ℕ) → i < length entries →
    has_name (table_view (take i entries)) name ≡ false → bytes_eq (get_or entries i d).name name ≡ true →
    d ≡ get_or entries i d → length (programs_of (table_view entries) name) ≡ length d.programs.items
versions_here entries i d name lt h e here = versions_of-found entries i d name lt h e
    ∙ ap (λ (entry : Entry). length entry.programs.items) (sym here)

pub refusal_here : (entries : List Entry) (i : ℕ) (d : Entry) (name : List ℕ) → is_name name ≡ true →
    i < length entries → has_name (table_view (take i entries)) name ≡ false →
    bytes_eq (get_or entries i d).name name ≡ true → d ≡ get_or entries i d → length d.programs.items < 2 ^ 32 - 1 →
    name_refusal (table_view entries) name ≡ None
refusal_here entries i d name form lt h e here few =
    let versions = versions_here entries i d name lt h e here in
    let room : length (programs_of (table_view entries) name) < 2 ^ 32 - 1 = omega (arith, versions) in
    refusal_named (table_view entries) name form (has_name-found entries i d name lt e) room

pub table-set_same : (entries : List Entry) (i : ℕ) (d changed : Entry) → i < length entries →
    entry_view changed ≡ entry_view (get_or entries i d) → table_view (set entries i changed) ≡ table_view entries
table-set_same [] i d changed lt e = refl
table-set_same (entry ∷ entries) zero d changed lt e = ap (λ (first : Loaded). first ∷ table_view entries) e
table-set_same (entry ∷ entries) (suc i) d changed lt e =
    let below : i < length entries = omega arith in
    ap (λ (rest : ProgramTable). entry_view entry ∷ rest) (table-set_same entries i d changed below e)

pub program_named-version : (table : ProgramTable) (name : List ℕ) (programs : List Program) (version : ℕ) →
    programs_of table name ≡ programs → program_named table name version ≡ version_of programs version
program_named-version table name programs zero e = refl
program_named-version table name programs (suc k) e = ap (λ (is : List Program). slice_get is k) e

pub version_of-none : (version : ℕ) → version_of [] version ≡ None
version_of-none zero = refl
version_of-none (suc k) = refl

pub version_of-previous : (programs : List Program) (version : ℕ) → version ≢ 0 →
    version_of programs version ≡ slice_get programs (version - 1)
version_of-previous programs zero ne = absurd (ne refl)
version_of-previous programs (suc k) ne =
    let e : suc k - 1 ≡ k = omega arith in
    rw e refl

pub map-push : {A B : Type 0} (f : A → B) (xs ys : List A) (x : A) → xs ≡ ys ++ x ∷ [] → map f xs ≡ map f ys ++ f x ∷ []
map-push f xs ys x e = ap (map f) e ∙ map_push f ys x

-- what is seen of the program at a place, and of none past the end
pub program_at : {A : Type 0} (seen : A → Program) (programs : List A) (k : ℕ) (found : A) → k < length programs →
    found ≡ get_or programs k found → Some (seen found) ≡ slice_get (map seen programs) k
program_at seen programs k found lt e =
    sym (slice_get-map seen programs k
    ∙ ap (option_map seen) (slice_get_read programs (length programs) k found refl lt e))

pub no_program_at : {A : Type 0} (seen : A → Program) (programs : List A) (k : ℕ) → length programs ≤ k →
    slice_get (map seen programs) k ≡ None
no_program_at seen programs k le = slice_get-map seen programs k ∙ ap (option_map seen) (slice_get_past programs k le)

-- a table that is not full has room for a name
pub has_room : (entries : List Entry) → false ≡ (length entries == 64) → length entries ≤ 64 →
    length (table_view entries) < 64
has_room entries test le =
    let lt : length entries < 64 = grind (arith, nat_tests) in
    omega (arith, lt, length-map entries entry_view)
