-- Whom a set knows, one more each time.
use Rattle.std.proofs.Common.{◌≡◌, ℕ, ◌+◌, ◌<◌, ◌||◌, Bool, true, false, cond, List, length, get_or, drop, refl, sym, ap, ◌∙◌}
use Rattle.std.proofs.lemmas.List.{at_drop_more}
use Rattle.std.proofs.lemmas.Bool.{false≢true}
use Rattle.news_types.specs.declared.query.Due.{Due}
use Rattle.news_types.specs.Names.{Bytes, same}
use Rattle.news_types.proofs.Members.{same_is, same_self}
use Rattle.publications.specs.Later.{is_there}

same_turned : (a b : Bytes) → same a b ≡ same b a
same_turned a b = by (same a b) (same b a) refl refl
  where
    by : (x y : Bool) → same a b ≡ x → same b a ≡ y → x ≡ y
    by true true one two = refl
    by true false one two = absurd (false≢true (sym two ∙ ap (λ t. same t a) (sym (same_is a b one)) ∙ same_self a))
    by false true one two = absurd (false≢true (sym one ∙ ap (λ t. same t b) (sym (same_is b a two)) ∙ same_self b))
    by false false one two = refl

-- one more is known
pub known_more : (s d : Bytes) (known : Bool) → cond (same d s) true known ≡ (known || same s d)
known_more s d known = ap (λ b. cond b true known) (same_turned d s) ∙ by (same s d) known
  where
    by : (b k : Bool) → cond b true k ≡ (k || b)
    by true true = refl
    by true false = refl
    by false true = refl
    by false false = refl

-- the next of these
there_here : (s : Bytes) (due : List Due) (i : ℕ) (d : Due) → i < length due → d ≡ get_or due i d → is_there s (drop i due) ≡ (same s d.subscriber || is_there s (drop (i + 1) due))
there_here s due i d lt is = at_drop_more (is_there s) due i d lt ∙ rw (← is) refl

-- it is known, and the rest is left
pub known_next : (s : Bytes) (due : List Due) (i : ℕ) (d : Due) (before after : Bool) → i < length due → d ≡ get_or due i d → after ≡ cond (same d.subscriber s) true before
    → (before || is_there s (drop i due)) ≡ is_there s due → (after || is_there s (drop (i + 1) due)) ≡ is_there s due
known_next s due i d before after lt is now all =
    ap (λ b. b || is_there s (drop (i + 1) due)) (now ∙ known_more s d.subscriber before)
    ∙ by before (same s d.subscriber) (is_there s (drop (i + 1) due))
    ∙ sym (ap (λ b. before || b) (there_here s due i d lt is))
    ∙ all
  where
    by : (a b r : Bool) → ((a || b) || r) ≡ (a || (b || r))
    by true b r = refl
    by false b r = refl
