-- To whom a package is due, and what stands before it in their feeds.
use Rattle.std.proofs.Common.{◌≡◌, ◌==◌, ℕ, ◌+◌, ◌<◌, ◌≤◌, Bool, true, false, not, ◌&&◌, ◌||◌, cond, Option, Some, None, List, [], ◌∷◌, ◌++◌, length, refl, sym, ap, subst, ◌∙◌, arith, append_assoc}
use Rattle.std.specs.Prelude.{is_some, find, reverse, nat_lt}
use Rattle.std.specs.List.{filter, list_any, list_all}
use Rattle.std.proofs.lemmas.Bool.{and_parts}
use Rattle.std.proofs.lemmas.Bool.Decides.{nat_tests}
use Rattle.std.proofs.lemmas.List.Folds.{list_any-append}
use Rattle.std.proofs.lemmas.List.Sorted.{list_any-IsPermutation, IsPermutation-reverse}
use mathlib.Core.Bool.{true≢false}
use Rattle.news_types.specs.declared.entry.Entry.{Entry}
use Rattle.news_types.specs.declared.entry.Act.{Act}
use Rattle.news_types.specs.declared.entry.Act.TheVariants.{Request}
use Rattle.news_types.specs.declared.command.Command.TheVariants.{Flash}
use Rattle.news_types.specs.declared.words.State.TheVariants.{Draft}
use Rattle.news_types.specs.declared.words.Action.TheVariants as action
use Rattle.news_types.specs.declared.words.Kind.TheVariants as kind
use Rattle.news_types.specs.declared.story.Story.{Story}
use Rattle.news_types.specs.Names.{Bytes, same, is_in}
use Rattle.news_types.specs.History.{History}
use Rattle.news_types.specs.Products.{Subscriber, subscriber, is_subscriber, subscribers, permitted, permitted_if_there, is_blocked, product_permits, product}
use Rattle.news_types.specs.Due.{Pub, release_to, is_due, given_by, left_behind, release_for, due_names, is_due_by}
use Rattle.news_types.specs.Items.{Item, Made, fresh}
use Rattle.news_types.specs.Publications.{Issue, made, pubs, standing, issued_by, first_issue, pub_of, pubs_of_item, pubs_of_issue, kept_by}
use Rattle.news_types.specs.States.{moved}
use Rattle.news_types.specs.Feeds.{Dispatch, dispatch, feed}
use Rattle.news_types.specs.FeedLaws.{BeginsWith}
use Rattle.news_types.specs.Legal.{IsLegal}
use Rattle.news_types.specs.Members.{Each}
use Rattle.news_types.specs.Answers.{in_order}
use Rattle.news_types.proofs.Members.{same_is, each_map, each_append}
use Rattle.news_types.proofs.Bounds.{new_pubs, pubs_grow}
use Rattle.news_types.proofs.Dues.{listed_due, given_had, each_kept}
use Rattle.news_types.proofs.Numbering.{NumberTo, standing_numbers, each_feed}
use Rattle.news_types.proofs.Prefix.{feeds_grow}
use Rattle.news_types.proofs.Subscribed.{listed_is}
use Rattle.package_members.specs.declared.member.Member.{Member}
use Rattle.story_tables.specs.Holding.{is_of, last_of, is_left}
use Rattle.package_rules.specs.Readers.{has_member, readers}
use Rattle.package_rules.specs.Promise.{IsPackaging, next_number, IsDueToReaders, HasEach, MembersComeFirst}

-- ---- names that pass a test

and_false : (b : Bool) → (b && false) ≡ false
and_false true = refl
and_false false = refl

and_true : (b : Bool) → (b && true) ≡ b
and_true true = refl
and_true false = refl

pub names_in : (s : Bytes) (t : Bytes → Bool) (names : List Bytes) → is_in s (filter t names) ≡ (t s && is_in s names)
names_in s t [] = sym (and_false (t s))
names_in s t (x ∷ names) = by (t x) (same s x) refl refl (names_in s t names)
  where
    by : (b c : Bool) → t x ≡ b → same s x ≡ c → is_in s (filter t names) ≡ (t s && is_in s names) → is_in s (cond b (x ∷ filter t names) (filter t names)) ≡ (t s && (c || is_in s names))
    by true true passes alike rest =
        let here : t s ≡ true = ap t (same_is s x alike) ∙ passes in
        rw (alike, here) refl
    by true false passes other rest = rw other rest
    by false true fails alike rest =
        let here : t s ≡ false = ap t (same_is s x alike) ∙ fails in
        rest ∙ ap (λ (b : Bool). b && is_in s names) here ∙ sym (ap (λ (b : Bool). b && true) here)
    by false false fails other rest = rest

-- ---- to whom a story with targets is permitted

moved_out : (a t b c : Bool) → (((a && t) && b) && c) ≡ (t && (((a && true) && b) && c))
moved_out true true b c = refl
moved_out true false b c = refl
moved_out false true b c = refl
moved_out false false b c = refl

-- those of the targets to whom it is permitted
pub targets_permitted : (h : History) (story : Story) (targets : List Bytes) (s : Bytes) → 0 < length targets → permitted h story targets s ≡ (is_in s targets && permitted h story [] s)
targets_permitted h story targets s some = by (subscriber h s)
  where
    by : (o : Option Subscriber) → permitted_if_there h story targets s o ≡ (is_in s targets && permitted_if_there h story [] s o)
    by None = sym (and_false (is_in s targets))
    by (Some it) =
        let given : (length targets == 0) ≡ false = grind (arith, nat_tests, some) in
        ap (λ (b : Bool). ((it.active && (b || is_in s targets)) && not (is_blocked h story it.off)) && list_any (λ name. product_permits h story (product h name)) it.products) given
        ∙ moved_out it.active (is_in s targets) (not (is_blocked h story it.off)) (list_any (λ name. product_permits h story (product h name)) it.products)

-- whom it is permitted to is a subscriber
permitted_there : (h : History) (story : Story) (targets : List Bytes) (s : Bytes) → (permitted h story targets s && is_subscriber h s) ≡ permitted h story targets s
permitted_there h story targets s = by (subscriber h s)
  where
    by : (o : Option Subscriber) → (permitted_if_there h story targets s o && is_some o) ≡ permitted_if_there h story targets s o
    by None = refl
    by (Some it) = and_true (permitted_if_there h story targets s (Some it))

some_cond : (b : Bool) (r : ℕ) → is_some (cond b (Some r) None) ≡ b
some_cond true r = refl
some_cond false r = refl

-- ---- what the entry publishes

module _ (g : History) (members : List Member) (story : Story) (e : Entry) (is : IsPackaging g members story e) where
  abbrev Targets : List Bytes
  Targets = readers g members

  abbrev TheIssue : Issue
  TheIssue = first_issue (length ((made g).items) + 1) (Some (fresh (moved action.Publish Draft) story None None)) e.moment Targets

  abbrev the_item : Item
  the_item = fresh (moved action.Publish Draft) story None None

  abbrev the_package : Pub
  the_package = pub_of g (made g) TheIssue the_item

  new_is : new_pubs e g ≡ the_package ∷ []
  new_is = ap (λ (act : Act). pubs_of_issue g (made g) (issued_by g (made g) e.moment act)) is.act

  due_is : (s : Bytes) → is_due s the_package ≡ (is_in s Targets && permitted g story [] s)
  due_is s =
      let f : Bytes → ℕ = release_for g (standing g) kind.First (length ((made g).items) + 1) e.moment in
      let t : Bytes → Bool = permitted g story Targets in
      ap is_some (listed_due f s (filter t (subscribers g))) ∙ some_cond (is_in s (filter t (subscribers g))) (f s) ∙ names_in s t (subscribers g)
      ∙ ap (λ (b : Bool). t s && b) (listed_is g s) ∙ permitted_there g story Targets s ∙ targets_permitted g story Targets s is.some

  pub due_to_readers : IsDueToReaders g members story e
  due_to_readers = record { published = the_package; next = ap (λ (new : List Pub). new ++ pubs g) new_is; number = refl; due = due_is }

  -- ---- who has it in a feed is a reader

  -- a publication of the package's number is due to its readers alone
  abbrev ToReaders : Pub → Type 0
  ToReaders p = p.number ≡ next_number g → (s : Bytes) → is_due s p ≡ true → is_in s Targets ≡ true

  to_left : (m i : ℕ) (p : Pub) → ToReaders p → ToReaders (left_behind m i p)
  to_left m i p to numbered s there = to numbered s (was (p.item == i) there)
    where
      was : (b : Bool) → is_some (release_to s (cond b (given_by m p.due) p.due)) ≡ true → is_some (release_to s p.due) ≡ true
      was true there = given_had _ s p.due there
      was false there = there

  to_package : ToReaders the_package
  to_package numbered s there = (and_parts (is_in s Targets) (permitted g story [] s) (sym (due_is s) ∙ there)).0

  to_others : (ps : List Pub) → Each (NumberTo (length (pubs g))) ps → Each ToReaders ps
  to_others ps all = each_map (NumberTo (length (pubs g))) ToReaders ps (λ p to numbered. absurd (omega (arith, to.1, numbered))) all

  new_numbered : (h : History) (w : Made) (o : Option Issue) → Each (λ (p : Pub). p.number ≡ length w.pubs + 1) (pubs_of_issue h w o)
  new_numbered h w None = tt
  new_numbered h w (Some issue) = by issue.after
    where
      by : (o : Option Item) → Each (λ (p : Pub). p.number ≡ length w.pubs + 1) (pubs_of_item h w issue o)
      by None = tt
      by (Some it) = (refl, tt)

  first_to : Each ToReaders (standing (e ∷ g))
  first_to =
      subst (λ (new : List Pub). Each ToReaders (new ++ kept_by e.moment e.act (standing g))) (sym new_is)
      (to_package, each_kept ToReaders to_left e.moment e.act (standing g) (to_others (standing g) (standing_numbers g)))

  -- so many are published behind it
  published_by : (more : History) → next_number g ≤ length (pubs (more ++ e ∷ g))
  published_by [] = let one : length (pubs (e ∷ g)) ≡ length (the_package ∷ pubs g) = ap (λ (new : List Pub). length (new ++ pubs g)) new_is in omega (arith, one)
  published_by (x ∷ more) = let before = published_by more in let grow = pubs_grow x (more ++ e ∷ g) in omega (arith, before, grow.0)

  stays_to : (more : History) → Each ToReaders (standing (more ++ e ∷ g))
  stays_to [] = first_to
  stays_to (x ∷ more) =
      let h : History = more ++ e ∷ g in
      let many = published_by more in
      each_append ToReaders (new_pubs x h) (kept_by x.moment x.act (standing h))
      (each_map (λ (p : Pub). p.number ≡ length (pubs h) + 1) ToReaders (new_pubs x h) (λ p numbered that. absurd (omega (arith, many, numbered, that))) (new_numbered h (made h) (issued_by h (made h) x.moment x.act)))
      (each_kept ToReaders to_left x.moment x.act (standing h) (stays_to more))

  abbrev ToReader : Bytes → Dispatch → Type 0
  ToReader s d = d.shown.number ≡ next_number g → is_in s Targets ≡ true

  feed_to : (more : History) (s : Bytes) → Each (ToReader s) (feed (more ++ e ∷ g) s)
  feed_to more s = each_feed ToReaders (ToReader s) (more ++ e ∷ g) s (λ p r to released numbered. to numbered s (ap is_some released)) (stays_to more)

  -- ---- the feed of a reader has each member

  found_any : {A : Type 0} (t : A → Bool) (xs : List A) (x : A) → find t xs ≡ Some x → list_any t xs ≡ true
  found_any t [] x found = absurd (cc (found))
  found_any t (y ∷ ys) x found = by (t y) found (found_any t ys x)
    where
      by : (b : Bool) → cond b (Some y) (find t ys) ≡ Some x → (find t ys ≡ Some x → list_any t ys ≡ true) → (b || list_any t ys) ≡ true
      by true found rest = refl
      by false found rest = rest found

  left_any : (i : ℕ) (ds : List Dispatch) → is_left (last_of i ds) ≡ true → list_any (is_of i) ds ≡ true
  left_any i ds left = by (last_of i ds) refl left
    where
      by : (o : Option Dispatch) → last_of i ds ≡ o → is_left o ≡ true → list_any (is_of i) ds ≡ true
      by None found left = absurd (true≢false (sym left))
      by (Some d) found left = list_any-IsPermutation (is_of i) ds (reverse ds) (IsPermutation-reverse ds) ∙ found_any (is_of i) (reverse ds) d found

  any_more : (t : Dispatch → Bool) (xs more : List Dispatch) → list_any t xs ≡ true → list_any t (xs ++ more) ≡ true
  any_more t xs more there = list_any-append t xs more ∙ ap (λ (b : Bool). b || list_any t more) there

  each_member : (ms : List Member) (ds more : List Dispatch) → list_all (has_member ds) ms ≡ true → HasEach ms (ds ++ more)
  each_member [] ds more all = tt
  each_member (m ∷ ms) ds more all =
      let parts = and_parts (has_member ds m) (list_all (has_member ds) ms) all in
      (any_more (is_of m.item) ds more (left_any m.item ds parts.0), each_member ms ds more parts.1)

  -- ---- what is in the feed already stands before

  head_is : (x y : Dispatch) (xs ys : List Dispatch) → x ∷ xs ≡ y ∷ ys → (x ≡ y) × (xs ≡ ys)
  head_is x y xs ys same = (cc (same), cc (same))

  stands_before : (xs rest before after : List Dispatch) (d : Dispatch) → xs ++ rest ≡ before ++ d ∷ after → Each (λ (x : Dispatch). x.shown.number ≡ d.shown.number → ⊥) xs
      → (more : List Dispatch) × (before ≡ xs ++ more)
  stands_before [] rest before after d same other = (before, refl)
  stands_before (x ∷ xs) rest [] after d same other = absurd (other.0 (ap (λ (y : Dispatch). y.shown.number) (head_is x d (xs ++ rest) after same).0))
  stands_before (x ∷ xs) rest (y ∷ before) after d same other =
      let parts = head_is x y (xs ++ rest) (before ++ d ∷ after) same in
      let behind = stands_before xs rest before after d parts.1 other.1 in
      (behind.0, ap (λ (z : Dispatch). z ∷ before) (sym parts.0) ∙ ap (λ (l : List Dispatch). x ∷ l) behind.1)

  each_middle : (P : Dispatch → Type 0) (before after : List Dispatch) (d : Dispatch) → Each P (before ++ d ∷ after) → P d
  each_middle P [] after d all = all.0
  each_middle P (x ∷ before) after d all = each_middle P before after d all.1

  older : (s : Bytes) (d : Dispatch) → d.shown.number ≡ next_number g → Each (λ (x : Dispatch). x.shown.number ≡ d.shown.number → ⊥) (feed g s)
  older s d numbered =
      each_feed (NumberTo (length (pubs g))) (λ (x : Dispatch). x.shown.number ≡ d.shown.number → ⊥) g s
      (λ p r to released same. absurd (omega (arith, to.1, same, numbered))) (standing_numbers g)

  pub come_first : (more : History) → IsLegal (more ++ e ∷ g) → (s : Bytes) (before after : List Dispatch) (d : Dispatch) → feed (more ++ e ∷ g) s ≡ before ++ d ∷ after → d.shown.number ≡ next_number g → HasEach members before
  come_first more legal s before after d found numbered =
      let t : Bytes → Bool = λ r. list_all (has_member (feed g r)) members in
      let reader : is_in s Targets ≡ true = each_middle (ToReader s) before after d (subst (Each (ToReader s)) found (feed_to more s)) numbered in
      let has : t s ≡ true = (and_parts (t s) (is_in s (in_order (subscribers g))) (sym (names_in s t (in_order (subscribers g))) ∙ reader)).0 in
      let whole : (more ++ (e ∷ [])) ++ g ≡ more ++ e ∷ g = append_assoc more (e ∷ []) g in
      let grown : BeginsWith (feed (more ++ e ∷ g) s) (feed g s) = subst (λ (h : History). BeginsWith (feed h s) (feed g s)) whole (feeds_grow (more ++ (e ∷ [])) g s (subst IsLegal (sym whole) legal)) in
      let ahead = stands_before (feed g s) grown.0 before after d (sym grown.1 ∙ found) (older s d numbered) in
      subst (HasEach members) (sym ahead.1) (each_member members (feed g s) ahead.0 has)

pub members_come_first : MembersComeFirst
members_come_first g more members story e is legal s before after d found numbered = come_first g members story e is more legal s before after d found numbered
