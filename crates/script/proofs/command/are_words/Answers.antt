use Rattle.std.proofs.Common.{◌∙◌, sym, length, nat_lt, Bor, List, ℕ}
use Rattle.std.proofs.lemmas.List.Folds.{list_all-map}
use Rattle.script.proofs.command.are_words.Goals as goal

pub returns : goal.returns
returns c = c.are_some.ensures
    ∙ sym (list_all-map (λ (word : List ℕ). nat_lt 0 (length word)) (λ (w : Bor (List ℕ)). w.now) c.args.words.now)
