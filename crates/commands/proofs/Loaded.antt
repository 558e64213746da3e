-- What is known of the names that a script loads, and what a load, a fetch and a report print.
use Rattle.std.proofs.Common.{◌≡◌, ℕ, List, [], ◌∷◌, refl, sym, ap, ◌∙◌}
use Rattle.std.proofs.Common.{Bool, true, false, cond, Option, Some, None, Bor, string_bytes, IfSome, IsSome}
use Rattle.std.proofs.Common.{Result, Ok, Err, OnOk, OnErr, IfErr}
use Rattle.std.specs.Prelude.{⊤}
use Rattle.std.specs.declared.string.String.{String}
use Rattle.std.specs.{Option.option_copied, Str.bytes_eq, String.string_cmp, Cmp.Lexicographic.slice_cmp}
use Rattle.std.specs.{Ordering.nat_cmp, Ordering.is_eq, Map.lookup}
use Rattle.std.specs.{BTreeMap.BTreeMap, BTreeMap.get_by_text, BTreeMap.UpdatesBy}
use Rattle.std.proofs.lemmas.{Map.Text.btree_map_updates_text, Map.Text.is_eq-slice_cmp, Slice.Eq.bytes_eq-Decides}
use Rattle.machine_spec.specs.{Image.Program, Image.program_of, declared.helper.Table.Table}
use Rattle.script.specs.Texts.{load_line, fetch_line}
use Rattle.catalogue.specs.Versions.{Version}
use Rattle.part_log.specs.Parts.{Log}
use Rattle.broker.specs.{Deployments.LoadIs, Fetches.IsFetch}
use Rattle.report.specs.{Snapshots.Gathered, Snapshots.IsGathered, Texts.report_text, Writes.Writes}
use Rattle.commands.specs.Sessions.{Running, session_of}
use Rattle.commands.specs.Sessions.{Scripted, by_text, known_of, AreOfNames, Learns, Loads, IsPrinted, Fetches, Reports}
use Rattle.commands.specs.{declared.stop.Stop.Stop, Stops.IsUnwritten}

-- ---- The map of a session

entries_known : {Y : Type 0} (entries : List (String Y × Version)) (name : List ℕ) →
    lookup (λ k. is_eq (slice_cmp nat_cmp name (string_bytes k))) entries ≡ known_of (by_text entries) name
entries_known [] name = refl
entries_known (entry ∷ entries) name =
    ap (λ (rest : Option Version). cond (is_eq (slice_cmp nat_cmp name (string_bytes entry.0))) (Some entry.1) rest)
    (entries_known entries name)
    ∙ ap (λ (here : Bool). cond here (Some entry.1) (known_of (by_text entries) name))
    (is_eq-slice_cmp name (string_bytes entry.0))

-- what a map has under a name is known of it
pub text_known : {Y : Type 0} (map : BTreeMap (String Y) Version) (name : List ℕ) →
    get_by_text map name ≡ known_of (by_text map.entries) name
text_known map name = entries_known map.entries name

-- the map has a version of a name, and of other names what it had
pub learned : {Y : Type 0} (key : List ℕ) (known : Version) (old new : BTreeMap (String Y) Version) → known.name ≡ key →
    UpdatesBy string_cmp (λ k. slice_cmp nat_cmp key (string_bytes k)) old new (Some known) → (name : List ℕ) →
    known_of (by_text new.entries) name
    ≡ cond (bytes_eq known.name name) (Some known) (known_of (by_text old.entries) name)
learned key known old new same is name =
    sym (text_known new name) ∙ btree_map_updates_text key old new (Some known) is name
    ∙ ap (λ (k : List ℕ). cond (bytes_eq k name) (Some known) (get_by_text old name)) (sym same)
    ∙ ap (λ (found : Option Version). cond (bytes_eq known.name name) (Some known) found) (text_known old name)

of_name : (known : Version) (old : Option Version) (name : List ℕ) (same : Bool) → bytes_eq known.name name ≡ same →
    IfSome old (λ k. k.name ≡ name) → IfSome (cond same (Some known) old) (λ k. k.name ≡ name)
of_name known old name true is given = (bytes_eq-Decides known.name name).0 is
of_name known old name false is given = given

-- the versions that were known are of their names, and so is the one that is learned
pub still_of_names : (known : Version) (old new : List (List ℕ × Version)) → AreOfNames old →
    ((name : List ℕ) → known_of new name ≡ cond (bytes_eq known.name name) (Some known) (known_of old name)) →
    AreOfNames new
still_of_names known old new given are name =
    rw (are name) (of_name known (known_of old name) name (bytes_eq known.name name) refl (given name))

-- what the map of a session has under a text is known of the name
pub of_session : {Y : Type 0} (map : BTreeMap (String Y) Version) {text inner name : List ℕ} {inputs : ℕ}
    {refusing : Option Log} {seen : Running} → text ≡ inner → inner ≡ name →
    session_of inputs (by_text map.entries) refusing ≡ seen → get_by_text map text ≡ known_of seen.script.loaded name
of_session map {text = text} first then is = rw (← is, ← then, ← first) (text_known map text)

-- what is found there is of that name
pub named : {Y : Type 0} (map : BTreeMap (String Y) Version) {text inner name : List ℕ} {inputs : ℕ}
    {refusing : Option Log} {seen : Running} {found : Version} → text ≡ inner → inner ≡ name →
    session_of inputs (by_text map.entries) refusing ≡ seen → AreOfNames (by_text map.entries) →
    Some found ≡ get_by_text map text → found.name ≡ name
named map {name = name} {found = found} first then is all there =
    let known : known_of (by_text map.entries) name ≡ Some found =
    sym (there ∙ text_known map _ ∙ ap (known_of (by_text map.entries)) (first ∙ then)) in
    rw known at (all name)

-- a map that takes a version, or is as it was, has versions of their names
pub still_named : {Y A B : Type 0} (key : List ℕ) (known : Version) (old new : BTreeMap (String Y) Version)
    (result : Result A B) → known.name ≡ key →
    OnOk result (UpdatesBy string_cmp (λ k. slice_cmp nat_cmp key (string_bytes k)) old new (Some known)) →
    OnErr result (new.entries ≡ old.entries) → AreOfNames (by_text old.entries) → AreOfNames (by_text new.entries)
still_named key known old new (Ok done) same updates err given =
    still_of_names known (by_text old.entries) (by_text new.entries) given (learned key known old new same updates)
still_named key known old new (Err failed) same updates err given = rw err given

-- what is known is found
pub not_none : {X : Type 0} (found : Option (Bor X)) (known : Option X) → option_copied found ≡ known →
    found ≡ None → IsSome known → ⊥
not_none (Some x) known same none some = absurd cc
not_none None (Some value) same none some = absurd cc
not_none None None same none some = absurd cc

-- ---- A load

-- what is loaded under a name is a version of that name
pub of_load : (text name : List ℕ) (program : Program) (loaded : ℕ × Version) → LoadIs text program (Ok loaded) →
    text ≡ name → loaded.1.name ≡ name
of_load text name program loaded (table, next, published) same =
    ap (λ (v : Version). v.name) published.1 ∙ same

pub loads : (name text image : List ℕ) (table : Table) (loaded : ℕ × Version) (old new : Scripted) (line : List ℕ) →
    LoadIs text (program_of image table) (Ok loaded) → text ≡ name → Learns loaded.1 old new →
    line ≡ load_line text loaded.0 → Loads name image table old new line
loads name text image table loaded old new line (live, next, published) same knows is =
    let load : LoadIs text (program_of image table) (Ok (loaded.0, loaded.1)) = (live, next, published) in
    record {
      known = loaded.1;
      loaded = rw (same, published.2) at load;
      learned = knows;
      line_is = rw (same, published.2) at is;
    }

-- ---- A fetch and a report

-- A broker with `number` input partitions was fetched from; a session has as many.
pub fetches : (cells : ℕ → List ℕ) (number inputs outputs output place max : ℕ) (found : Option (List ℕ))
    (before after : Option (List ℕ)) (result : Result ⊤ Stop) → IsFetch cells number outputs output place max found →
    inputs ≡ number → IsPrinted before after (fetch_line found) result →
    Fetches cells inputs outputs output place max before after result
fetches cells number inputs outputs output place max found before after result is same printed =
    record { found = found; fetched = rw same is; printed = printed }

pub reports : (number inputs outputs : ℕ) (snapshot : Gathered) (before after : Option (List ℕ))
    (result : Result ⊤ Stop) → IsGathered number outputs snapshot → inputs ≡ number →
    Writes before after (report_text snapshot) result → IfErr result IsUnwritten →
    Reports inputs outputs before after result
reports number inputs outputs snapshot before after result is same printed ends =
    record { snapshot = snapshot; gathered = rw same is; printed = printed; ends = ends }
