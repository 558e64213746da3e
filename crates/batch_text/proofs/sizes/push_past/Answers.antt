use Rattle.std.proofs.Common.{refl, codes}
use Rattle.batch_text.proofs.TextLaws.{pushed, str_pushed}
use Rattle.batch_text.proofs.sizes.push_past.Goals as goal

pub returns-in_ok-push_count-in-Value : goal.returns-in_ok-push_count-in-Value
returns-in_ok-push_count-in-Value c =
    rw c.in-Value.is (pushed c.push_str-in-Value.result _ _ _ _ _ _ c.in_ok-push_count-in-Value.ensures
    (str_pushed c.push_str-in-Value.result _ _ (codes " bytes, 1048576 at most") c.push_str-in-Value.ensures.bytes)
    refl)

pub returns-in_ok-push_count-in-Headers : goal.returns-in_ok-push_count-in-Headers
returns-in_ok-push_count-in-Headers c =
    rw c.in-Headers.is (pushed c.push_str-in-Headers.result _ _ _ _ _ _ c.in_ok-push_count-in-Headers.ensures
    (str_pushed c.push_str-in-Headers.result _ _ (codes " headers, 16 at most") c.push_str-in-Headers.ensures.bytes)
    refl)

pub returns-in-Other : goal.returns-in-Other
returns-in-Other c =
    rw c.in-Other.is
    (str_pushed c.push_str-in-Other.result _ _ (codes " has another form") c.push_str-in-Other.ensures.bytes)
