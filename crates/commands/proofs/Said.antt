-- What is known of the command that a line is.
use Rattle.std.proofs.Common.{◌≡◌, List, ℕ, true, Result, refl, subst, Option, Some, None, IfOk, IsSome, is_some}
use Rattle.broker.specs.Layouts.{Layout}
use Rattle.catalogue.specs.Versions.{Version}
use Rattle.script.specs.{declared.command.Command.Command, Faults.fault_of}
use Rattle.script.specs.declared.command.Command.TheVariants.{Deploy}
use Rattle.commands.specs.Sessions.{Begins, is_loaded, known_of}

pub begins : {E : Type 0} (said : Option Command) (command : Command) (made : Result Layout E)
    → Some command ≡ said → IfOk made (λ parts. Begins (Some command) parts) → IfOk made (λ parts. Begins said parts)
begins said command made is given = subst (λ (s : Option Command). IfOk made (λ parts. Begins s parts)) is given

some_known : (input : ℕ) (name : List ℕ) (known : Option Version) →
    fault_of (Deploy input name) true (is_some known) ≡ None → IsSome known
some_known input name None none = absurd cc
some_known input name (Some version) none = refl

-- the program of a `deploy` is known
pub is_known : (input : ℕ) (name : List ℕ) (loaded : List (List ℕ × Version)) →
    fault_of (Deploy input name) true (is_loaded loaded (Deploy input name)) ≡ None → IsSome (known_of loaded name)
is_known input name loaded none = some_known input name (known_of loaded name) none
