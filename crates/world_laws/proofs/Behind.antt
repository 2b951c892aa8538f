-- A correction, kill or recall stands behind every earlier publication of its item, and nothing of an item comes behind its kill.
use Rattle.std.proofs.Common.{◌≡◌, ◌==◌, ℕ, ◌+◌, ◌<◌, ◌≤◌, length, inl, inr, Bool, true, false, cond, max, Option, Some, None, List, [], ◌∷◌, ◌++◌, refl, sym, ap, ◌∙◌, arith}
use Rattle.std.specs.Prelude.{slice_get, nat_le, unwrap_or}
use Rattle.std.specs.List.{filter}
use Rattle.std.proofs.lemmas.Bool.{cases_lt}
use Rattle.std.proofs.lemmas.Bool.Decides.{nat_tests, Decides-eqb}
use mathlib.Core.Bool.{true≢false}
use Rattle.news_types.specs.declared.entry.Act.{Act}
use Rattle.news_types.specs.declared.entry.Act.TheVariants.{Ingest, Request}
use Rattle.news_types.specs.declared.command.Command.{Command}
use Rattle.news_types.specs.declared.command.Command.TheVariants.{Flash, Publish, Correct, Kill, Recall, Deschedule}
use Rattle.news_types.specs.declared.words.Kind.{Kind}
use Rattle.news_types.specs.declared.words.Kind.TheVariants as kind
use Rattle.news_types.specs.declared.query.Due.{Due}
use Rattle.news_types.specs.declared.story.Incoming.{Incoming}
use Rattle.news_types.specs.Names.{Bytes}
use Rattle.news_types.specs.History.{History}
use Rattle.news_types.specs.Due.{Pub, is_first, takes_back, release_to, is_by, latest, given_by, left_behind, taken_back, release_for}
use Rattle.news_types.specs.Items.{Item, Made, Effect, NewAt, item_after, effect_by, made_by, routed_item}
use Rattle.news_types.specs.Publications.{Issue, made, standing, issued_by, issued_by_command, issued_by_effect, release_at, first_issue, later_issue, pub_of, pubs_of_item, pubs_of_issue, kept_by}
use Rattle.news_types.specs.Feeds.{Dispatch, feed}
use Rattle.news_types.specs.Members.{Each}
use Rattle.world_laws.specs.FeedOrder.{CorrectionsComeLater, EndsWithKills}
use Rattle.news_types.proofs.Members.{some_is, none_some, each_map, each_get, each_filter, each_passes}
use Rattle.news_types.proofs.Dues.{IsFair, are_of, release_of_to, release_given, each_release, standing_are_fair}
use Rattle.news_types.proofs.Numbering.{each_feed, Falls, standing_falls}
use Rattle.world_laws.proofs.Order.{feeds_in_order}

-- ---- of two publications of an item

-- to nobody is the first released behind the second
abbrev NoLater : Pub → Pub → Type 0
NoLater q p = p.item ≡ q.item → (s : Bytes) (a b : ℕ) → release_to s p.due ≡ Some a → release_to s q.due ≡ Some b → a ≤ b

-- to nobody is the first released behind the second's own release
abbrev Ends : Pub → Pub → Type 0
Ends q p = p.item ≡ q.item → (s : Bytes) (a : ℕ) → release_to s p.due ≡ Some a → a ≤ q.release

-- what is no first publication is behind those before it, and a kill or recall ends them
abbrev pub Follow : List Pub → Type 0
Follow [] = Unit {0}
Follow (q ∷ ps) = (is_first q.kind ≡ false → Each (NoLater q) ps) × (takes_back q.kind ≡ true → Each (Ends q) ps) × Follow ps

-- ---- what is left of publications

pub left_had : (m i : ℕ) (s : Bytes) (p : Pub) (r : ℕ) → IsFair p → release_to s (left_behind m i p).due ≡ Some r → release_to s p.due ≡ Some r
left_had m i s p r fair is = by (p.item == i) is
  where
    if_by : (b : Bool) (o : Option ℕ) → cond b o None ≡ Some r → o ≡ Some r
    if_by true o e = e
    if_by false o e = absurd (none_some r e)

    by : (b : Bool) → release_to s (cond b (given_by m p.due) p.due) ≡ Some r → release_to s p.due ≡ Some r
    by true e = if_by (is_by m (release_to s p.due)) (release_to s p.due) (sym (release_given fair.agree.0 m s p.due fair.agree.1) ∙ e)
    by false e = e

early : (m : ℕ) (d : Due) → nat_le d.release m ≡ true → d.release ≤ m
early m d e = grind (arith, nat_tests)

-- what is left of the item's publications is released by then
left_early : (m i : ℕ) (s : Bytes) (p : Pub) (r : ℕ) → p.item ≡ i → release_to s (left_behind m i p).due ≡ Some r → r ≤ m
left_early m i s p r same is =
    let here : (p.item == i) ≡ true = (Decides-eqb p.item i).1 same in
    each_release (λ (n : ℕ). n ≤ m) s (given_by m p.due) r (each_passes (λ (d : Due). d.release ≤ m) _ p.due (early m)) (sym (ap (λ (b : Bool). release_to s (cond b (given_by m p.due) p.due)) here) ∙ is)

no_later_left : (m i : ℕ) (q p : Pub) → IsFair q → IsFair p → NoLater q p → NoLater (left_behind m i q) (left_behind m i p)
no_later_left m i q p fq fp least same s a b one two = least same s a b (left_had m i s p a fp one) (left_had m i s q b fq two)

ends_left : (m i : ℕ) (q p : Pub) → IsFair p → Ends q p → Ends (left_behind m i q) (left_behind m i p)
ends_left m i q p fp ends same s a one = ends same s a (left_had m i s p a fp one)

each_left : (P : Pub → Type 0) (Q : Pub → Type 0) (m i : ℕ) (ps : List Pub) → ((p : Pub) → IsFair p → P p → Q (left_behind m i p)) → Each IsFair ps → Each P ps → Each Q (taken_back m i ps)
each_left P Q m i [] go fair all = tt
each_left P Q m i (p ∷ ps) go fair all = (go p fair.0 all.0, each_left P Q m i ps go fair.1 all.1)

follow_left : (m i : ℕ) (ps : List Pub) → Each IsFair ps → Follow ps → Follow (taken_back m i ps)
follow_left m i [] fair follow = tt
follow_left m i (q ∷ ps) fair follow = (
  (λ later. each_left (NoLater q) (NoLater (left_behind m i q)) m i ps (λ p fp least. no_later_left m i q p fair.0 fp least) fair.1 (follow.0 later)),
  (λ back. each_left (Ends q) (Ends (left_behind m i q)) m i ps (λ p fp ends. ends_left m i q p fp ends) fair.1 (follow.1 back)),
  follow_left m i ps fair.1 follow.2,
)

follow_filter : (t : Pub → Bool) (ps : List Pub) → Follow ps → Follow (filter t ps)
follow_filter t [] follow = tt
follow_filter t (q ∷ ps) follow =
    elim (t q) as (λ b. Follow (cond b (q ∷ filter t ps) (filter t ps))) [
      | true ↦ ((λ later. each_filter (NoLater q) t ps (follow.0 later)), (λ back. each_filter (Ends q) t ps (follow.1 back)), follow_filter t ps follow.2)
      | false ↦ follow_filter t ps follow.2
    ]

follow_kept : (m : ℕ) (act : Act) (ps : List Pub) → Each IsFair ps → Follow ps → Follow (kept_by m act ps)
follow_kept m (Request caller number (Deschedule i)) ps fair follow = follow_filter _ ps follow
follow_kept m (Request caller number (Kill i session note)) ps fair follow = follow_left m i ps fair follow
follow_kept m (Request caller number (Recall i session note)) ps fair follow = follow_left m i ps fair follow
follow_kept m (Request caller number command) ps fair follow = follow
follow_kept m _ ps fair follow = follow

-- ---- a new publication

-- it is released to a subscriber when the rule says so
pub new_release : (h : History) (w : Made) (issue : Issue) (it : Item) (s : Bytes) (r : ℕ) → release_to s (pub_of h w issue it).due ≡ Some r → r ≡ release_for h w.standing issue.kind issue.item issue.release s
new_release h w issue it s r is =
    let f : Bytes → ℕ = release_for h w.standing issue.kind issue.item issue.release in
    release_of_to f s (pub_of h w issue it).due r (are_of f _) is

AtMostLatest : ℕ → (Bytes → ℕ) → Pub → Type 0
AtMostLatest i f p = p.item ≡ i → (s : Bytes) (a : ℕ) → release_to s p.due ≡ Some a → a ≤ f s

-- no release of the item's publications is above the latest
below_latest : (i : ℕ) (ps : List Pub) → Each (AtMostLatest i (latest ps i)) ps
unfolding AtMostLatest
below_latest i [] = tt
below_latest i (p ∷ ps) = (
  (λ same s a is. let here : (p.item == i) ≡ true = (Decides-eqb p.item i).1 same in rw here (first s a is)),
  each_map (AtMostLatest i (latest ps i)) (AtMostLatest i (latest (p ∷ ps) i)) ps (λ q most same s a is. more (p.item == i) s a (most same s a is)) (below_latest i ps),
)
  where
    first : (s : Bytes) (a : ℕ) → release_to s p.due ≡ Some a → a ≤ max (unwrap_or (release_to s p.due) 0) (latest ps i s)
    first s a is = let value : unwrap_or (release_to s p.due) 0 ≡ a = ap (λ (o : Option ℕ). unwrap_or o 0) is in omega (arith, value)

    more : (b : Bool) (s : Bytes) (a : ℕ) → a ≤ latest ps i s → a ≤ cond b (max (unwrap_or (release_to s p.due) 0) (latest ps i s)) (latest ps i s)
    more true s a le = omega (arith, le)
    more false s a le = le

later_correct : (h : History) (w : Made) (issue : Issue) (it : Item) → issue.kind ≡ kind.Correct → Each (NoLater (pub_of h w issue it)) w.standing
unfolding AtMostLatest
later_correct h w issue it is =
    each_map (AtMostLatest issue.item (latest w.standing issue.item)) (NoLater (pub_of h w issue it)) w.standing
    (λ p most same s a b one two.
    let least : a ≤ latest w.standing issue.item s = most same s a one in
    let value : b ≡ release_for h w.standing kind.Correct issue.item issue.release s = new_release h w issue it s b two ∙ ap (λ (k : Kind). release_for h w.standing k issue.item issue.release s) is in
    omega (arith, least, value))
    (below_latest issue.item w.standing)

-- a kill or recall of the item at the moment, of what is left behind it
every : (P : Pub → Type 0) (ps : List Pub) → ((p : Pub) → P p) → Each P ps
every P [] all = tt
every P (p ∷ ps) all = (all p, every P ps all)

ends_new : (h : History) (w : Made) (issue : Issue) (it : Item) (m : ℕ) → issue.release ≡ m → Each (Ends (pub_of h w issue it)) (taken_back m issue.item w.standing)
ends_new h w issue it m is = over w.standing
  where
    over : (ps : List Pub) → Each (Ends (pub_of h w issue it)) (taken_back m issue.item ps)
    over [] = tt
    over (p ∷ ps) = ((λ same s a one. let le = left_early m issue.item s p a same one in omega (arith, le, is)), over ps)

pub taken_release : (h : History) (ps : List Pub) (k : Kind) (i release : ℕ) (s : Bytes) → takes_back k ≡ true → release_for h ps k i release s ≡ release
taken_release h ps kind.Kill i release s back = refl
taken_release h ps kind.Recall i release s back = refl
taken_release h ps kind.First i release s back = absurd (true≢false (sym back))
taken_release h ps kind.Correct i release s back = absurd (true≢false (sym back))

later_taken : (h : History) (w : Made) (issue : Issue) (it : Item) (ps : List Pub) → takes_back issue.kind ≡ true → Each (Ends (pub_of h w issue it)) ps → Each (NoLater (pub_of h w issue it)) ps
later_taken h w issue it ps back ends =
    each_map (Ends (pub_of h w issue it)) (NoLater (pub_of h w issue it)) ps
    (λ p end same s a b one two.
    let le : a ≤ issue.release = end same s a one in
    let value : b ≡ issue.release = new_release h w issue it s b two ∙ taken_release h w.standing issue.kind issue.item issue.release s back in
    omega (arith, le, value)) ends

module _ (h : History) (w : Made) (fair : Each IsFair w.standing) (follow : Follow w.standing) where
  first_step : (issue : Issue) (o : Option Item) → issue.kind ≡ kind.First → Follow (pubs_of_item h w issue o ++ w.standing)
  first_step issue None is = follow
  first_step issue (Some it) is = (
    (λ later. absurd (true≢false (sym (ap is_first is) ∙ later))),
    (λ back. absurd (true≢false (sym back ∙ ap takes_back is))),
    follow,
  )

  correct_step : (issue : Issue) (o : Option Item) → issue.kind ≡ kind.Correct → Follow (pubs_of_item h w issue o ++ w.standing)
  correct_step issue None is = follow
  correct_step issue (Some it) is = (
    (λ later. later_correct h w issue it is),
    (λ back. absurd (true≢false (sym back ∙ ap takes_back is))),
    follow,
  )

  taken_step : (m : ℕ) (issue : Issue) (o : Option Item) → issue.release ≡ m → takes_back issue.kind ≡ true → Follow (pubs_of_item h w issue o ++ taken_back m issue.item w.standing)
  taken_step m issue None is back = follow_left m issue.item w.standing fair follow
  taken_step m issue (Some it) is back =
      let ends = ends_new h w issue it m is in
      ((λ later. later_taken h w issue it (taken_back m issue.item w.standing) back ends), (λ again. ends), follow_left m issue.item w.standing fair follow)

  command_step : (m : ℕ) (caller : Bytes) (number : ℕ) (command : Command) → Follow (pubs_of_issue h w (issued_by_command w m caller command) ++ kept_by m (Request caller number command) w.standing)
  command_step m caller number (Flash story targets) =
      let o : Option Item = made_by (Flash story targets) in first_step (first_issue (length w.items + 1) o m targets) o refl
  command_step m caller number (Publish i session schedule embargo targets) =
      let o : Option Item = item_after w m caller (Publish i session schedule embargo targets) in first_step (first_issue i o (release_at m schedule embargo) targets) o refl
  command_step m caller number (Correct i session story) =
      let o : Option Item = item_after w m caller (Correct i session story) in correct_step (later_issue kind.Correct w i o m None) o refl
  command_step m caller number (Kill i session note) =
      let o : Option Item = item_after w m caller (Kill i session note) in taken_step m (later_issue kind.Kill w i o m (Some note)) o refl refl
  command_step m caller number (Recall i session note) =
      let o : Option Item = item_after w m caller (Recall i session note) in taken_step m (later_issue kind.Recall w i o m (Some note)) o refl refl
  command_step m caller number (Deschedule i) = follow_filter _ w.standing follow
  command_step m caller number _ = follow

  effect_step : (m : ℕ) (name : Bytes) (come : Incoming) (effect : Effect) → Follow (pubs_of_issue h w (issued_by_effect w m name come effect) ++ w.standing)
  effect_step m name come (NewAt place true) =
      let o : Option Item = Some (routed_item name come place true) in first_step (first_issue (length w.items + 1) o (max m come.embargo) []) o refl
  effect_step m name come _ = follow

  act_step : (m : ℕ) (act : Act) → Follow (pubs_of_issue h w (issued_by h w m act) ++ kept_by m act w.standing)
  act_step m (Request caller number command) = command_step m caller number command
  act_step m (Ingest name come) = effect_step m name come (effect_by h w name come m)
  act_step m _ = follow

pub follow_of : (h : History) → Follow (standing h)
follow_of [] = tt
follow_of (e ∷ h) = act_step h (made h) (standing_are_fair h) (follow_of h) e.moment e.act

-- ---- all pairs

-- the first is the later one of two of an item
abbrev Fair : Pub → Pub → Type 0
Fair q p = p.number < q.number → (is_first q.kind ≡ false → NoLater q p) × (takes_back q.kind ≡ true → Ends q p)

fair_one : (q : Pub) (ps : List Pub) → (is_first q.kind ≡ false → Each (NoLater q) ps) → (takes_back q.kind ≡ true → Each (Ends q) ps) → Each (Fair q) ps
fair_one q [] least ends = tt
fair_one q (p ∷ ps) least ends = ((λ less. ((λ later. (least later).0), (λ back. (ends back).0))), fair_one q ps (λ later. (least later).1) (λ back. (ends back).1))

pairs : (ps : List Pub) → Follow ps → Falls ps → Each (λ q. Each (Fair q) ps) ps
pairs [] follow falls = tt
pairs (q ∷ ps) follow falls = (((λ less. absurd (omega (arith, less))), fair_one q ps follow.0 follow.1), joined ps falls.0 (pairs ps follow.2 falls.1))
  where
    joined : (l : List Pub) → Each (λ r. r.number < q.number) l → Each (λ r. Each (Fair r) ps) l → Each (λ r. Each (Fair r) (q ∷ ps)) l
    joined [] older fair = tt
    joined (r ∷ l) older fair = (((λ less. absurd (omega (arith, less, older.0))), fair.0), joined l older.1 fair.1)

all_fair : (h : History) → Each (λ q. Each (Fair q) (standing h)) (standing h)
all_fair h = pairs (standing h) (follow_of h) (standing_falls h)

-- ---- in a feed

-- of two dispatches
abbrev Ordered : Dispatch → Dispatch → Type 0
Ordered e d = d.shown.item ≡ e.shown.item → is_first e.shown.kind ≡ false → d.shown.number < e.shown.number → d.release ≤ e.release

pub corrections_follow : CorrectionsComeLater
corrections_follow h s i j d e one two same later less =
    let all : Each (λ (f : Dispatch). Each (Ordered f) (feed h s)) (feed h s) =
    each_feed (λ (q : Pub). Each (Fair q) (standing h)) (λ (f : Dispatch). Each (Ordered f) (feed h s)) h s
    (λ q b fair is. each_feed (Fair q) (λ (g : Dispatch). g.shown.item ≡ q.item → is_first q.kind ≡ false → g.shown.number < q.number → g.release ≤ b) h s
    (λ p a fairly there here late lower. (fairly lower).0 late here s a b there is) fair)
    (all_fair h) in
    let le : d.release ≤ e.release = each_get (Ordered e) (feed h s) i d (each_get (λ (f : Dispatch). Each (Ordered f) (feed h s)) (feed h s) j e all two) one same later less in
    elim (cases_lt i j) [
      | inl lt ↦ lt
      | inr from ↦ elim (cases_lt j i) [
        | inl lt ↦ elim ((feeds_in_order h s).0 j i e d lt two one) [
          | inl sooner ↦ absurd (omega (arith, sooner, le))
          | inr tie ↦ absurd (omega (arith, tie.1, less))
        ]
        | inr to ↦
            let here : i ≡ j = omega (arith, from, to) in
            let equal : d ≡ e = some_is d e (sym one ∙ ap (slice_get (feed h s)) here ∙ two) in
            absurd (omega (arith, less, ap (λ (x : Dispatch). x.shown.number) equal))
      ]
    ]

pub kills_end : EndsWithKills feed
kills_end h legal s i j d q one two same back less =
    each_get (λ (g : Dispatch). g.shown.item ≡ q.item → takes_back q.kind ≡ true → g.shown.number < q.number → g.release ≤ q.release) (feed h s) i d
    (each_feed (Fair q) (λ (g : Dispatch). g.shown.item ≡ q.item → takes_back q.kind ≡ true → g.shown.number < q.number → g.release ≤ q.release) h s
    (λ p a fairly there here taken lower. (fairly lower).1 taken here s a there)
    (each_get (λ (r : Pub). Each (Fair r) (standing h)) (standing h) j q (all_fair h) two)) one same back less
