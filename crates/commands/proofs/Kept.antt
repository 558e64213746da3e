-- Which files stay after two calls.
use Rattle.std.proofs.Common.{ℕ, List, Option, ◌∙◌}
use Rattle.commands.specs.{Files.KeepsAll, Files.KeepsBut, FileTransforms.KeepsOthers}

pub all_then_all : {before mid after : List ℕ → Option (List ℕ)} → KeepsAll before mid → KeepsAll mid after →
    KeepsAll before after
all_then_all first then other = then other ∙ first other

pub all_then_but : {leads : List ℕ → List ℕ} {name : List ℕ} {before mid after : List ℕ → Option (List ℕ)} →
    KeepsAll before mid → KeepsBut leads name mid after → KeepsBut leads name before after
all_then_but first then other not = then other not ∙ first other

pub all_then_others : {leads : List ℕ → List ℕ} (names : List (List ℕ)) {before mid after : List ℕ → Option (List ℕ)} →
    KeepsAll before mid → KeepsOthers leads names mid after → KeepsOthers leads names before after
all_then_others names first then other none = then other none ∙ first other

pub all_but : (leads : List ℕ → List ℕ) {name : List ℕ} {before after : List ℕ → Option (List ℕ)} →
    KeepsAll before after → KeepsBut leads name before after
all_but leads kept other not = kept other

pub all_others : (leads : List ℕ → List ℕ) (names : List (List ℕ)) {before after : List ℕ → Option (List ℕ)} →
    KeepsAll before after → KeepsOthers leads names before after
all_others leads names kept other none = kept other

pub ruleset kept = (all_then_all, all_then_but, all_then_others, all_but, all_others)
