-- A publication is due where its reasons say so.
use Rattle.std.proofs.Common.{◌≡◌, ℕ, ◌+◌, ◌≤◌, ◌==◌, Bool, true, false, ◌&&◌, ◌||◌, cond, Option, Some, None, List, [], ◌∷◌, ◌++◌, length, refl, sym, ap, subst, ◌∙◌, arith}
use Rattle.std.specs.Prelude.{is_some, option_map, nat_lt}
use Rattle.std.specs.List.{find, filter, list_any}
use mathlib.Core.Bool.{true≢false}
use Rattle.std.proofs.lemmas.Bool.Decides.{nat_tests}
use Rattle.news_types.specs.declared.words.Kind.{Kind}
use Rattle.news_types.specs.declared.words.Kind.TheVariants as kind
use Rattle.news_types.specs.declared.story.Story.{Story}
use Rattle.news_types.specs.declared.query.Due.{Due}
use Rattle.news_types.specs.Names.{Bytes, same, is_in}
use Rattle.news_types.specs.History.{History}
use Rattle.news_types.specs.Members.{Each}
use Rattle.news_types.specs.Products.{Subscriber, subscriber, is_subscriber, subscribers, permitted, permitted_if_there}
use Rattle.news_types.specs.Due.{Pub, release_to, is_due, is_by, had, had_by, is_due_by, due_names, release_for}
use Rattle.news_types.specs.Items.{Item}
use Rattle.news_types.specs.Publications.{Issue, made, pubs, standing, issued_by, pub_of, pubs_of_item, pubs_of_issue}
use Rattle.news_types.proofs.Members.{same_is}
use Rattle.news_types.proofs.Dues.{listed_due}
use Rattle.news_types.proofs.Numbering.{NumberTo, pub_numbers}
use Rattle.news_types.proofs.Subscribed.{IsToKnown, listed_is, standing_are_known}
use Rattle.feed_reasons.specs.Verdicts.{verdict, says_permitted}
use Rattle.feed_reasons.specs.Courses.{numbered}
use Rattle.feed_reasons.specs.Reasons.{reasons_of, made_behind, had_before, says_due}
use Rattle.feed_reasons.specs.Laws.{DueIsSaid}
use Rattle.feed_reasons.proofs.Verdicts.{permitted_is_said}

-- ---- names that pass a test

and_false : (b : Bool) → (b && false) ≡ false
and_false true = refl
and_false false = refl

and_true : (b : Bool) → (b && true) ≡ b
and_true true = refl
and_true false = refl

names_in : (s : Bytes) (t : Bytes → Bool) (names : List Bytes) → is_in s (filter t names) ≡ (t s && is_in s names)
names_in s t [] = sym (and_false (t s))
names_in s t (x ∷ names) = by (t x) (same s x) refl refl (names_in s t names)
  where
    by : (b c : Bool) → t x ≡ b → same s x ≡ c → is_in s (filter t names) ≡ (t s && is_in s names) → is_in s (cond b (x ∷ filter t names) (filter t names)) ≡ (t s && (c || is_in s names))
    by true true passes alike rest =
        let here : t s ≡ true = ap t (same_is s x alike) ∙ passes in
        rw (alike, here) refl
    by true false passes other rest = rw other rest
    by false true fails alike rest =
        let here : t s ≡ false = ap t (same_is s x alike) ∙ fails in
        rest ∙ ap (λ (b : Bool). b && is_in s names) here ∙ sym (ap (λ (b : Bool). b && true) here)
    by false false fails other rest = rest

-- ---- those to whom something is due are subscribers

permitted_there : (h : History) (story : Story) (targets : List Bytes) (s : Bytes) → (permitted h story targets s && is_subscriber h s) ≡ permitted h story targets s
permitted_there h story targets s = by (subscriber h s)
  where
    by : (o : Option Subscriber) → (permitted_if_there h story targets s o && is_some o) ≡ permitted_if_there h story targets s o
    by None = refl
    by (Some it) = and_true (permitted_if_there h story targets s (Some it))

by_some : (m : ℕ) (o : Option ℕ) → is_by m o ≡ true → is_some o ≡ true
by_some m None is = is
by_some m (Some time) is = refl

or_true : (a b : Bool) → a ≡ true → (a || b) ≡ true
or_true true b is = refl
or_true false b is = absurd (true≢false (sym is))

-- one of these is for the subscriber, and passes
any_known : (h : History) (s : Bytes) (t : Pub → Bool) (ps : List Pub) → ((p : Pub) → t p ≡ true → is_due s p ≡ true) → Each (IsToKnown h) ps → list_any t ps ≡ true → is_subscriber h s ≡ true
any_known h s t [] due known some = absurd (true≢false (sym some))
any_known h s t (p ∷ ps) due known some = by (t p) refl some (λ later. any_known h s t ps due known.1 later)
  where
    by : (b : Bool) → t p ≡ b → (b || list_any t ps) ≡ true → (list_any t ps ≡ true → is_subscriber h s ≡ true) → is_subscriber h s ≡ true
    by true passes some later = known.0 s (due p passes)
    by false fails some later = later some

second : (a b : Bool) → (a && b) ≡ true → b ≡ true
second true b is = is
second false b is = absurd (true≢false (sym is))

had_there : (h : History) (i : ℕ) (s : Bytes) → had (standing h) i s ≡ true → is_subscriber h s ≡ true
had_there h i s is = any_known h s (λ (p : Pub). (p.item == i) && is_due s p) (standing h) (λ p both. second (p.item == i) (is_due s p) both) (standing_are_known h) is

had_by_there : (h : History) (m i : ℕ) (s : Bytes) → had_by m (standing h) i s ≡ true → is_subscriber h s ≡ true
had_by_there h m i s is =
    any_known h s (λ (p : Pub). (p.item == i) && is_by m (release_to s p.due)) (standing h)
    (λ p both. by_some m (release_to s p.due) (second (p.item == i) (is_by m (release_to s p.due)) both)) (standing_are_known h) is

and_there : (a b : Bool) → (a ≡ true → b ≡ true) → (a && b) ≡ a
and_there true b there = there refl
and_there false b there = refl

or_and : (a b c : Bool) → (a && c) ≡ a → (b && c) ≡ b → ((a || b) && c) ≡ (a || b)
or_and true b c one two = one
or_and false b c one two = two

-- ---- what the reasons say

-- what they say of a publication that was made behind the list
abbrev due_said : History → Bytes → Pub → Bool
due_said g s p = by_kind p.kind
  where
    by_kind : Kind → Bool
    by_kind kind.First = says_permitted (verdict g p.story p.targets s)
    by_kind kind.Correct = says_permitted (verdict g p.story p.targets s) || had_before g p.kind p.item p.release s
    by_kind kind.Kill = had_before g p.kind p.item p.release s
    by_kind kind.Recall = had_before g p.kind p.item p.release s

said_due : (h g : History) (s : Bytes) (p : Pub) → due_said g s p ≡ says_due (reasons_of h g s p)
said_due h g s p = by p.kind refl
  where
    by : (k : Kind) → p.kind ≡ k → due_said g s p ≡ says_due (reasons_of h g s p)
    by kind.First is = rw is refl
    by kind.Correct is = rw is refl
    by kind.Kill is = rw is refl
    by kind.Recall is = rw is refl

module _ (g : History) (s : Bytes) where
  is_due_there : (k : Kind) (i : ℕ) (story : Story) (release : ℕ) (targets : List Bytes)
      → (is_due_by g (standing g) k i story release targets s && is_subscriber g s) ≡ is_due_by g (standing g) k i story release targets s
  is_due_there kind.First i story release targets = permitted_there g story targets s
  is_due_there kind.Correct i story release targets =
      or_and (permitted g story targets s) (had (standing g) i s) (is_subscriber g s) (permitted_there g story targets s) (and_there (had (standing g) i s) (is_subscriber g s) (had_there g i s))
  is_due_there kind.Kill i story release targets = and_there (had_by release (standing g) i s) (is_subscriber g s) (had_by_there g release i s)
  is_due_there kind.Recall i story release targets = and_there (had_by release (standing g) i s) (is_subscriber g s) (had_by_there g release i s)

  by_kinds : (k : Kind) (number i version : ℕ) (story : Story) (release : ℕ) (targets : List Bytes) (due : List Due)
      → is_due_by g (standing g) k i story release targets s ≡ due_said g s (record { number = number; item = i; version = version; kind = k; story = story; release = release; targets = targets; due = due })
  by_kinds kind.First number i version story release targets due = permitted_is_said g story targets s
  by_kinds kind.Correct number i version story release targets due = ap (λ (b : Bool). b || had (standing g) i s) (permitted_is_said g story targets s)
  by_kinds kind.Kill number i version story release targets due = refl
  by_kinds kind.Recall number i version story release targets due = refl

  some_cond : (b : Bool) (r : ℕ) → is_some (cond b (Some r) None) ≡ b
  some_cond true r = refl
  some_cond false r = refl

  new_due : (issue : Issue) (it : Item) → is_due s (pub_of g (made g) issue it) ≡ due_said g s (pub_of g (made g) issue it)
  new_due issue it =
      let p : Pub = pub_of g (made g) issue it in
      let names : List Bytes = due_names g (standing g) p.kind p.item p.story p.release p.targets in
      ap is_some (listed_due (release_for g (standing g) p.kind p.item p.release) s names)
      ∙ some_cond (is_in s names) (release_for g (standing g) p.kind p.item p.release s)
      ∙ names_in s (is_due_by g (standing g) p.kind p.item p.story p.release p.targets) (subscribers g)
      ∙ ap (λ (b : Bool). is_due_by g (standing g) p.kind p.item p.story p.release p.targets s && b) (listed_is g s)
      ∙ is_due_there p.kind p.item p.story p.release p.targets
      ∙ by_kinds p.kind p.number p.item p.version p.story p.release p.targets p.due

-- ---- by the list behind which it was made

each_found : {A : Type 0} (P : A → Type 0) (t : A → Bool) (xs : List A) (x : A) → Each P xs → find t xs ≡ Some x → P x
each_found P t [] x each is = absurd (cc (is))
each_found P t (y ∷ xs) x each is = by (t y) is (λ later. each_found P t xs x each.1 later)
  where
    by : (b : Bool) → cond b (Some y) (find t xs) ≡ Some x → (find t xs ≡ Some x → P x) → P x
    by true found later = subst P (some_is found) each.0
      where
        some_is : Some y ≡ Some x → y ≡ x
        some_is same = cc
    by false found later = later found

passes_found : {A : Type 0} (t : A → Bool) (xs : List A) (x : A) → find t xs ≡ Some x → t x ≡ true
passes_found t [] x is = absurd (cc (is))
passes_found t (y ∷ xs) x is = by (t y) refl is (λ later. passes_found t xs x later)
  where
    by : (b : Bool) → t y ≡ b → cond b (Some y) (find t xs) ≡ Some x → (find t xs ≡ Some x → t x ≡ true) → t x ≡ true
    by true passes found later = subst (λ z. t z ≡ true) (some_is found) passes
      where
        some_is : Some y ≡ Some x → y ≡ x
        some_is same = cc
    by false fails found later = later found

-- a number that is found is no greater than the count
number_within : (h : History) (n : ℕ) (p : Pub) → numbered n (pubs h) ≡ Some p → n ≤ length (pubs h)
number_within h n p is =
    let to = each_found (NumberTo (length (pubs h))) (λ (q : Pub). q.number == n) (pubs h) p (pub_numbers h) is in
    let number : p.number ≡ n = (let passes = passes_found (λ (q : Pub). q.number == n) (pubs h) p is in grind (arith, nat_tests, passes)) in
    omega (arith, to.1, number)

due_is : (h : History) (n : ℕ) (s : Bytes) (p : Pub) → numbered n (pubs h) ≡ Some p → is_due s p ≡ due_said (made_behind n h) s p
due_is [] n s p is = absurd (cc (is))
due_is (e ∷ h) n s p is = by_issue (issued_by h (made h) e.moment e.act) is (λ later. due_is h n s p later)
  where
    before : numbered n (pubs h) ≡ Some p → is_due s p ≡ due_said (made_behind n h) s p → is_due s p ≡ due_said (cond (nat_lt (length (pubs h)) n) h (made_behind n h)) s p
    before found rest =
        let within = number_within h n p found in
        let fails : nat_lt (length (pubs h)) n ≡ false = grind (arith, nat_tests, within) in
        rest ∙ sym (ap (λ (b : Bool). due_said (cond b h (made_behind n h)) s p) fails)

    new : (issue : Issue) (it : Item) (b : Bool) → (length (pubs h) + 1 == n) ≡ b → cond b (Some (pub_of h (made h) issue it)) (numbered n (pubs h)) ≡ Some p
        → (numbered n (pubs h) ≡ Some p → is_due s p ≡ due_said (made_behind n h) s p) → is_due s p ≡ due_said (cond (nat_lt (length (pubs h)) n) h (made_behind n h)) s p
    new issue it true number found later =
        let here : nat_lt (length (pubs h)) n ≡ true = grind (arith, nat_tests, number) in
        subst (λ (q : Pub). is_due s q ≡ due_said h s q) (some_is found) (new_due h s issue it) ∙ sym (ap (λ (b : Bool). due_said (cond b h (made_behind n h)) s p) here)
      where
        some_is : Some (pub_of h (made h) issue it) ≡ Some p → pub_of h (made h) issue it ≡ p
        some_is same = cc
    new issue it false number found later = before found (later found)

    by_item : (issue : Issue) (o : Option Item) → numbered n (pubs_of_item h (made h) issue o ++ pubs h) ≡ Some p → (numbered n (pubs h) ≡ Some p → is_due s p ≡ due_said (made_behind n h) s p)
        → is_due s p ≡ due_said (cond (nat_lt (length (pubs h)) n) h (made_behind n h)) s p
    by_item issue None found later = before found (later found)
    by_item issue (Some it) found later = new issue it (length (pubs h) + 1 == n) refl found later

    by_issue : (o : Option Issue) → numbered n (pubs_of_issue h (made h) o ++ pubs h) ≡ Some p → (numbered n (pubs h) ≡ Some p → is_due s p ≡ due_said (made_behind n h) s p)
        → is_due s p ≡ due_said (cond (nat_lt (length (pubs h)) n) h (made_behind n h)) s p
    by_issue None found later = before found (later found)
    by_issue (Some issue) found later = by_item issue issue.after found later

pub due_is_said : DueIsSaid
due_is_said h n s p r found is =
    let these : r ≡ reasons_of h (made_behind n h) s p = by (numbered n (pubs h)) found is in
    due_is h n s p found ∙ said_due h (made_behind n h) s p ∙ ap says_due (sym these)
  where
    by : (o : Option Pub) → o ≡ Some p → option_map (reasons_of h (made_behind n h) s) o ≡ Some r → r ≡ reasons_of h (made_behind n h) s p
    by None there is = absurd (cc (there))
    by (Some q) there is = sym (some_reasons is) ∙ ap (reasons_of h (made_behind n h) s) (some_pub there)
      where
        some_reasons : Some (reasons_of h (made_behind n h) s q) ≡ Some r → reasons_of h (made_behind n h) s q ≡ r
        some_reasons same = cc

        some_pub : Some q ≡ Some p → q ≡ p
        some_pub same = cc
