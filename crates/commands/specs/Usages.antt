-- What is said of words that are no call, and what `commands` prints.
use Rattle.std.specs.Prelude.{◌≡◌, ◌⊎◌, ℕ, List, [], ◌∷◌, ◌++◌, Option, codes}
use Rattle.std.specs.{Bool.OnTrue, List.flat_map, Io.KnownBytes.Appends}
use Rattle.commands.specs.declared.{status.Status.Status, usage.Told.Told}
use Rattle.commands.specs.declared.status.Status.TheVariants.{Done, Usage, Failed}

-- a line with its line feed
abbrev pub line_of : List ℕ → List ℕ
line_of words = words ++ 10 ∷ []

-- the line that says how calls are written
abbrev pub usage_line : List ℕ
usage_line = line_of (codes "usage: klog COMMAND FILE ...")

-- all calls
abbrev pub calls : List (List ℕ)
calls =
    codes "klog asm TEXT IMAGE"
    ∷ codes "klog batches FILE"
    ∷ codes "klog check IMAGE [1 or 2]"
    ∷ codes "klog commands"
    ∷ codes "klog explain IMAGE [1 or 2] [refused]"
    ∷ codes "klog dis IMAGE"
    ∷ codes "klog recheck LIST"
    ∷ codes "klog records FILE"
    ∷ codes "klog rule TEXT PROGRAM"
    ∷ codes "klog run SCRIPT"
    ∷ codes "klog transform [table2] IMAGE IN OUT .."
    ∷ codes "klog version"
    ∷ []

-- the version
abbrev pub version_line : List ℕ
version_line = line_of (codes "klog 1.1.0")

-- Words are no call: the status says so, and standard error, where what it has is known, got the line that says how
-- calls are written and nothing else, if all of it was written.
pub record TellsUsage (told : Told) (before after : Option (List ℕ)) : Type 0 where
  pub status_is : told.status ≡ Usage
  pub written : OnTrue told.is_written (Appends before after usage_line)

-- A call that prints all calls ends with this status: standard output got a line for each and nothing else, or standard
-- output or memory failed.
abbrev pub ListsCalls : Status → Option (List ℕ) → Option (List ℕ) → Type 0
ListsCalls status before after =
    (status ≡ Failed) ⊎ ((status ≡ Done) × Appends before after (flat_map line_of calls))

-- the same of a call that prints the version
abbrev pub PrintsVersion : Status → Option (List ℕ) → Option (List ℕ) → Type 0
PrintsVersion status before after = (status ≡ Failed) ⊎ ((status ≡ Done) × Appends before after version_line)
