-- Texts that are put one after the other.
use Rattle.std.proofs.Common.{◌≡◌, ℕ, List, ◌++◌, Result, Ok, Err, ap, ◌∙◌}
use Rattle.std.specs.Prelude.{OnOk}
use mathlib.Core.List.{append_assoc}

pub two_put : {A E : Type 0} (r : Result A E) (old mid new first second : List ℕ) → mid ≡ old ++ first → OnOk r (new ≡ mid ++ second) → OnOk r (new ≡ old ++ (first ++ second))
two_put (Ok done) old mid new first second is more = more ∙ ap (λ (w : List ℕ). w ++ second) is ∙ append_assoc old first second
two_put (Err e) old mid new first second is more = tt

pub three_put : {A E : Type 0} (r : Result A E) (old one two new first second third : List ℕ) → one ≡ old ++ first → two ≡ one ++ second
    → OnOk r (new ≡ two ++ third) → OnOk r (new ≡ old ++ (first ++ (second ++ third)))
three_put r old one two new first second third one_is two_is more =
    two_put r old one new first (second ++ third) one_is (two_put r one two new second third two_is more)

pub four_put : {A E : Type 0} (r : Result A E) (old one two three new first second third fourth : List ℕ) → one ≡ old ++ first → two ≡ one ++ second → three ≡ two ++ third
    → OnOk r (new ≡ three ++ fourth) → OnOk r (new ≡ old ++ (first ++ (second ++ (third ++ fourth))))
four_put r old one two three new first second third fourth one_is two_is three_is more =
    two_put r old one new first (second ++ (third ++ fourth)) one_is (three_put r one two three new second third fourth two_is three_is more)

pub five_put : {A E : Type 0} (r : Result A E) (old one two three four new first second third fourth fifth : List ℕ) → one ≡ old ++ first → two ≡ one ++ second → three ≡ two ++ third
    → four ≡ three ++ fourth → OnOk r (new ≡ four ++ fifth) → OnOk r (new ≡ old ++ (first ++ (second ++ (third ++ (fourth ++ fifth)))))
five_put r old one two three four new first second third fourth fifth one_is two_is three_is four_is more =
    two_put r old one new first (second ++ (third ++ (fourth ++ fifth))) one_is (four_put r one two three four new second third fourth fifth two_is three_is four_is more)
