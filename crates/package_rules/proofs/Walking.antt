-- How far the lines of a package were gone through.
use Rattle.std.proofs.Common.{◌≡◌, ◌≤◌, ◌<◌, ℕ, zero, suc, ◌+◌, ◌-◌, Bool, true, false, not, ◌||◌, cond, drop, get_or, length, Option, Some, None, List, [], ◌∷◌, ◌++◌, refl, sym, ap, subst, ◌∙◌, arith}
use Rattle.std.specs.Prelude.{nat_eq}
use Rattle.std.specs.List.{list_any}
use Rattle.std.specs.HashSet.{contains}
use Rattle.std.proofs.lemmas.Bool.Decides.{nat_tests}
use Rattle.std.proofs.lemmas.List.{at_drop_more, drop_all}
use mathlib.Core.Bool.{true≢false}
use Rattle.news_types.specs.declared.query.Answer.{Answer}
use Rattle.news_types.specs.declared.query.Answer.TheVariants as told
use Rattle.news_types.specs.declared.query.Query.TheVariants as query
use Rattle.news_types.specs.declared.query.Publication.{Publication}
use Rattle.news_types.specs.Names.{Bytes}
use Rattle.news_types.specs.History.{History}
use Rattle.news_types.specs.Due.{Pub, shown}
use Rattle.news_types.specs.Publications.{pubs}
use Rattle.news_types.specs.Answers.{query_answer, publication_answer, publication_at}
use Rattle.package_members.specs.declared.member.Member.{Member}
use Rattle.package_rules.specs.declared.lines.Line.{Line}
use Rattle.package_rules.specs.declared.lines.Steps.{Steps}
use Rattle.package_rules.specs.Opening.{Walk, is_opened, with_line, line_of, with_members, with_opened, members_of_story, members_of, members_in, number_below}
use Rattle.package_rules.specs.Walking.{IsAt}

-- ---- what was opened

eq_turned : (m n : ℕ) → nat_eq m n ≡ nat_eq n m
eq_turned m n = grind (arith, nat_tests)

eq_is : (m n : ℕ) → nat_eq m n ≡ true → m ≡ n
eq_is m n is = grind (arith, nat_tests, is)

or_is : (a b : Bool) → cond a true b ≡ (a || b)
or_is true b = refl
or_is false b = refl

-- the set knows one more
abbrev pub Knows : Steps → Steps → ℕ → Type 0
Knows s t number = (n : ℕ) → contains nat_eq t.opened n ≡ cond (nat_eq number n) true (contains nat_eq s.opened n)

pub at_new : (s t : Steps) (w : Walk) (number : ℕ) → IsAt s w → t.lines ≡ s.lines → Knows s t number → IsAt t (record w { opened = number ∷ w.opened })
at_new s t w number at lines knows = record {
  lines = ap (λ l. l.items) lines ∙ at.lines;
  opened = λ n.
      knows n ∙ ap (λ (b : Bool). cond (nat_eq number n) true b) (at.opened n) ∙ or_is (nat_eq number n) (is_opened n w) ∙ ap (λ (b : Bool). b || is_opened n w) (eq_turned number n);
}

pub at_old : (s t : Steps) (w : Walk) (number : ℕ) → IsAt s w → t.lines ≡ s.lines → Knows s t number → is_opened number w ≡ true → IsAt t w
at_old s t w number at lines knows old = record {
  lines = ap (λ l. l.items) lines ∙ at.lines;
  opened = λ n. knows n ∙ ap (λ (b : Bool). cond (nat_eq number n) true b) (at.opened n) ∙ there n (nat_eq number n) refl;
}
  where
    there : (n : ℕ) (b : Bool) → nat_eq number n ≡ b → cond b true (is_opened n w) ≡ is_opened n w
    there n true is = sym (ap (λ (k : ℕ). is_opened k w) (sym (eq_is number n is)) ∙ old)
    there n false is = refl

pub at_line : (s t : Steps) (w : Walk) (line : Line) → IsAt s w → t.lines.items ≡ s.lines.items ++ line ∷ [] → t.opened ≡ s.opened → IsAt t (with_line line w)
at_line s t w line at lines opened = record {
  lines = lines ∙ ap (λ (l : List Line). l ++ line ∷ []) at.lines;
  opened = λ n. ap (λ o. contains nat_eq o n) opened ∙ at.opened n;
}

turned_false : (b c : Bool) → b ≡ not c → b ≡ false → c ≡ true
turned_false b true is fails = refl
turned_false b false is fails = absurd (true≢false (sym is ∙ fails))

turned_true : (b c : Bool) → b ≡ not c → b ≡ true → c ≡ false
turned_true b true is passes = absurd (true≢false (sym passes ∙ is))
turned_true b false is passes = refl

-- what the set says of a publication
pub was_opened : (s : Steps) (w : Walk) (number : ℕ) (new : Bool) → IsAt s w → new ≡ not (contains nat_eq s.opened number) → new ≡ false → is_opened number w ≡ true
was_opened s w number new at is fails = sym (at.opened number) ∙ turned_false new (contains nat_eq s.opened number) is fails

pub was_new : (s : Steps) (w : Walk) (number : ℕ) (new : Bool) → IsAt s w → new ≡ not (contains nat_eq s.opened number) → new ≡ true → is_opened number w ≡ false
was_new s w number new at is passes = sym (at.opened number) ∙ turned_true new (contains nat_eq s.opened number) is passes

-- ---- one publication is opened

pub opened_none : (h : History) (depth n : ℕ) (w : Walk) → with_opened h 0 depth n w ≡ w
unfolding with_opened
opened_none h depth n w = refl

pub opened_old : (h : History) (levels depth n : ℕ) (w : Walk) → is_opened n w ≡ true → with_opened h levels depth n w ≡ w
unfolding with_opened
opened_old h zero depth n w old = refl
opened_old h (suc levels) depth n w old =
    ap (λ (b : Bool). cond b w (with_members (with_opened h levels (depth + 1)) h depth n (members_in h n) (record w { opened = n ∷ w.opened }))) old

pub opened_new : (h : History) (levels depth n : ℕ) (w : Walk) → is_opened n w ≡ false
    → with_opened h (suc levels) depth n w ≡ with_members (with_opened h levels (depth + 1)) h depth n (members_in h n) (record w { opened = n ∷ w.opened })
unfolding with_opened
opened_new h levels depth n w new =
    ap (λ (b : Bool). cond b w (with_members (with_opened h levels (depth + 1)) h depth n (members_in h n) (record w { opened = n ∷ w.opened }))) new

-- ---- some of its members

-- these steps, and the members that are left, come to what the publication opens
abbrev pub Opened : History → ℕ → ℕ → ℕ → Walk → List Member → ℕ → Steps → Type 0
Opened h levels depth n w members i s =
    (v : Walk) × IsAt s v × (with_members (with_opened h (levels - 1) (depth + 1)) h depth n (drop i members) v ≡ with_opened h levels depth n w)

levels_are : (levels : ℕ) → (levels ≡ 0 → ⊥) → levels ≡ suc (levels - 1)
levels_are zero some = absurd (some refl)
levels_are (suc levels) some = omega arith

pub first_opened : (h : History) (levels depth n : ℕ) (w : Walk) (members : List Member) (s t : Steps) → (levels ≡ 0 → ⊥) → is_opened n w ≡ false → members ≡ members_in h n → IsAt s w → t.lines ≡ s.lines → Knows s t n → Opened h levels depth n w members 0 t
first_opened h levels depth n w members s t some new are at lines knows = (
  record w { opened = n ∷ w.opened },
  at_new s t w n at lines knows,
  ap (λ (ms : List Member). with_members (with_opened h (levels - 1) (depth + 1)) h depth n ms (record w { opened = n ∷ w.opened })) are
      ∙ sym (opened_new h (levels - 1) depth n w new)
      ∙ ap (λ (l : ℕ). with_opened h l depth n w) (sym (levels_are levels some)),
)

-- one member more: its line, and what its publication opens
pub next_opened : (h : History) (levels depth n : ℕ) (w : Walk) (members : List Member) (i : ℕ) (m : Member) (s t : Steps) → i < length members → m ≡ get_or members i m
    → Opened h levels depth n w members i s → ((v : Walk) → IsAt s v → IsAt t (with_opened h (levels - 1) (depth + 1) (number_below h m.item n) (with_line (line_of depth m (number_below h m.item n)) v))) → Opened h levels depth n w members (i + 1) t
next_opened h levels depth n w members i m s t within is so_far goes =
    let v : Walk = so_far.0 in
    let p : ℕ = number_below h m.item n in
    let open_it : ℕ → Walk → Walk = with_opened h (levels - 1) (depth + 1) in (
      open_it p (with_line (line_of depth m p) v),
      goes v so_far.1,
      sym (at_drop_more (λ (ms : List Member). with_members open_it h depth n ms v) members i m within ∙ ap (λ (k : Member). with_members open_it h depth n (k ∷ drop (i + 1) members) v) (sym is)) ∙ so_far.2,
    )

pub all_opened : (h : History) (levels depth n : ℕ) (w : Walk) (members : List Member) (i : ℕ) (s : Steps) → length members ≤ i → Opened h levels depth n w members i s → IsAt s (with_opened h levels depth n w)
all_opened h levels depth n w members i s all so_far =
    let end : so_far.0 ≡ with_opened h levels depth n w =
    sym (ap (λ (ms : List Member). with_members (with_opened h (levels - 1) (depth + 1)) h depth n ms so_far.0) (drop_all i members all)) ∙ so_far.2 in
    subst (IsAt s) end so_far.1

-- ---- what was answered

pub members_there : (h : History) (n : ℕ) (publication : Publication) (frames : Bytes → ℕ → Bytes) → told.Publication publication ≡ query_answer frames h (query.Publication n) → members_of_story publication.story ≡ members_in h n
members_there h n publication frames is = by (publication_at n (pubs h)) is
  where
    by : (o : Option Pub) → told.Publication publication ≡ publication_answer (pubs h) o → members_of_story publication.story ≡ members_of o
    by None is = absurd (cc (is))
    by (Some p) is = ap (λ (q : Publication). members_of_story q.story) (shown_is publication (shown p) is)
      where
        shown_is : (a b : Publication) → told.Publication a ≡ told.Publication b → a ≡ b
        shown_is a b same = cc

pub members_none : (h : History) (n : ℕ) (answer : Answer) (frames : Bytes → ℕ → Bytes) → ((publication : Publication) → answer ≡ told.Publication publication → ⊥) → answer ≡ query_answer frames h (query.Publication n) → [] ≡ members_in h n
members_none h n answer frames never is = by (publication_at n (pubs h)) is
  where
    by : (o : Option Pub) → answer ≡ publication_answer (pubs h) o → [] ≡ members_of o
    by None is = refl
    by (Some p) is = absurd (never (shown p) is)
