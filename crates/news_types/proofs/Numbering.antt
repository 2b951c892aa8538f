-- Publications are numbered in the order of their making, and what stands is some of them.
use Rattle.std.proofs.Common.{◌≡◌, ℕ, zero, suc, ◌+◌, ◌<◌, ◌≤◌, Bool, true, false, cond, not, Option, Some, None, List, [], ◌∷◌, ◌++◌, map, length, refl, sym, ap, ◌∙◌, arith, ◌-◌, ◌==◌}
use Rattle.std.specs.Prelude.{slice_get, nat_lt}
use Rattle.std.specs.List.{filter}
use Rattle.std.proofs.lemmas.Bool.Decides.{nat_tests}
use Rattle.news_types.specs.declared.entry.Act.{Act}
use Rattle.news_types.specs.declared.entry.Act.TheVariants.{Ingest, Request}
use Rattle.news_types.specs.declared.command.Command.TheVariants.{Flash, Publish, Correct, Kill, Recall, Deschedule}
use Rattle.news_types.specs.declared.command.Command.{Command}
use Rattle.news_types.specs.declared.story.Incoming.{Incoming}
use Rattle.news_types.specs.Names.{Bytes}
use Rattle.news_types.specs.History.{History, moment}
use Rattle.news_types.specs.Due.{Pub, shown, is_first_of, standing_first, release_to, taken_back}
use Rattle.news_types.specs.Items.{Item, Made, Effect, NewAt, item_numbered, changed_by, at_moment, named_item, item_after, items_by, items_by_command, items_by_effect, effect_by}
use Rattle.news_types.specs.Publications.{Issue, made, issued_by, issued_by_command, issued_by_effect, pubs_of_item, pubs_of_issue, kept_by, item_count, pubs, standing}
use Rattle.news_types.specs.Feeds.{Dispatch, inserted, dispatch, put, is_out, is_waiting, due_to, feed, waiting}
use Rattle.news_types.specs.declared.query.Publication.{Publication}
use Rattle.news_types.specs.Members.{Each}
use Rattle.news_types.proofs.Members.{each_map, each_append, each_filter, each_get, get_within, mapped, some_is, none_some}
use Rattle.news_types.proofs.Dues.{each_kept}
use Rattle.news_types.proofs.Bounds.{new_pubs, pushed_length, command_items, items_grow}

-- ---- a property of publications that goes over to feeds

pub each_place : (Q : Dispatch → Type 0) (d : Dispatch) (l : List Dispatch) → Q d → Each Q l → Each Q (inserted d l)
each_place Q d [] new all = (new, tt)
each_place Q d (e ∷ es) new all =
    elim (nat_lt d.release e.release) as (λ b. Each Q (cond b (d ∷ e ∷ es) (e ∷ inserted d es))) [
      | true ↦ (new, all)
      | false ↦ (all.0, each_place Q d es new all.1)
    ]

pub each_put : (Q : Dispatch → Type 0) (p : Pub) (o : Option ℕ) (l : List Dispatch) → ((r : ℕ) → o ≡ Some r → Q (dispatch p r)) → Each Q l → Each Q (put p o l)
each_put Q p None l new all = all
each_put Q p (Some r) l new all = each_place Q (dispatch p r) l (new r refl) all

-- the second holds of a subscriber's dispatches of the publications of which the first holds
abbrev pub GoesOver : (Pub → Type 0) → Bytes → (Dispatch → Type 0) → Type 0
GoesOver P s Q = (p : Pub) (r : ℕ) → P p → release_to s p.due ≡ Some r → Q (dispatch p r)

pub each_due_to : (P : Pub → Type 0) (Q : Dispatch → Type 0) (s : Bytes) (ps : List Pub) → GoesOver P s Q → Each P ps → Each Q (due_to s ps)
each_due_to P Q s [] over all = tt
each_due_to P Q s (p ∷ ps) over all = each_put Q p (release_to s p.due) (due_to s ps) (λ r is. over p r all.0 is) (each_due_to P Q s ps over all.1)

pub each_feed : (P : Pub → Type 0) (Q : Dispatch → Type 0) (h : History) (s : Bytes) → GoesOver P s Q → Each P (standing h) → Each Q (feed h s)
each_feed P Q h s over all = each_filter Q (is_out (moment h)) (due_to s (standing h)) (each_due_to P Q s (standing h) over all)

pub each_waiting : (P : Pub → Type 0) (Q : Dispatch → Type 0) (h : History) (s : Bytes) → GoesOver P s Q → Each P (standing h) → Each Q (waiting h s)
each_waiting P Q h s over all = each_filter Q (is_waiting (moment h)) (due_to s (standing h)) (each_due_to P Q s (standing h) over all)

-- ---- numbers

-- newest first, each number is the place: from the length down to 1
abbrev pub CountsDown : List Pub → Type 0
CountsDown [] = Unit {0}
CountsDown (p ∷ ps) = (p.number ≡ length ps + 1) × CountsDown ps

count_item : (h : History) (w : Made) (issue : Issue) (o : Option Item) → CountsDown w.pubs → CountsDown (pubs_of_item h w issue o ++ w.pubs)
count_item h w issue None down = down
count_item h w issue (Some it) down = (refl, down)

count_issue : (h : History) (w : Made) (o : Option Issue) → CountsDown w.pubs → CountsDown (pubs_of_issue h w o ++ w.pubs)
count_issue h w None down = down
count_issue h w (Some issue) down = count_item h w issue issue.after down

pub pubs_count_down : (h : History) → CountsDown (pubs h)
pubs_count_down [] = tt
pubs_count_down (e ∷ h) = count_issue h (made h) (issued_by h (made h) e.moment e.act) (pubs_count_down h)

-- the publication at a place, from 0 for the newest
pub number_at : (ps : List Pub) (k : ℕ) (p : Pub) → CountsDown ps → slice_get ps k ≡ Some p → p.number + k ≡ length ps
number_at [] k p down is = absurd (none_some p is)
number_at (q ∷ ps) zero p down is = let n : q.number ≡ p.number = ap (λ (x : Pub). x.number) (some_is q p is) in omega (arith, n, down.0)
number_at (q ∷ ps) (suc k) p down is = let rest = number_at ps k p down.1 is in omega (arith, rest)

-- every number lies from 1 to so many
abbrev pub NumberTo : ℕ → Pub → Type 0
NumberTo n p = (1 ≤ p.number) × (p.number ≤ n)

numbers_to : (ps : List Pub) → CountsDown ps → Each (NumberTo (length ps)) ps
numbers_to [] down = tt
numbers_to (p ∷ ps) down =
    ((omega (arith, down.0), omega (arith, down.0)), each_map (NumberTo (length ps)) (NumberTo (suc (length ps))) ps (λ q to. (to.0, omega (arith, to.1))) (numbers_to ps down.1))

pub pub_numbers : (h : History) → Each (NumberTo (length (pubs h))) (pubs h)
pub_numbers h = numbers_to (pubs h) (pubs_count_down h)

-- ---- what stands is some of the publications

-- it is shown as one of these
abbrev pub IsAmong : List Pub → Publication → Type 0
IsAmong ps it = (k : ℕ) × (slice_get (map shown ps) k ≡ Some it)

among_behind : (new ps : List Pub) (it : Publication) → IsAmong ps it → IsAmong (new ++ ps) it
among_behind [] ps it among = among
among_behind (q ∷ new) ps it among = let rest = among_behind new ps it among in (suc rest.0, rest.1)

abbrev pub IsShownAmong : List Pub → Pub → Type 0
IsShownAmong ps p = IsAmong ps (shown p)

among_item : (h : History) (w : Made) (issue : Issue) (o : Option Item) (ps : List Pub) → Each (IsShownAmong (pubs_of_item h w issue o ++ ps)) (pubs_of_item h w issue o)
among_item h w issue None ps = tt
among_item h w issue (Some it) ps = ((0, refl), tt)

among_issue : (h : History) (w : Made) (o : Option Issue) (ps : List Pub) → Each (IsShownAmong (pubs_of_issue h w o ++ ps)) (pubs_of_issue h w o)
among_issue h w None ps = tt
among_issue h w (Some issue) ps = among_item h w issue issue.after ps

pub standing_among : (h : History) → Each (IsShownAmong (pubs h)) (standing h)
standing_among [] = tt
standing_among (e ∷ h) =
    each_append (IsShownAmong (pubs (e ∷ h))) (new_pubs e h) (kept_by e.moment e.act (standing h)) (among_issue h (made h) (issued_by h (made h) e.moment e.act) (pubs h))
    (each_map (IsShownAmong (pubs h)) (IsShownAmong (pubs (e ∷ h))) (kept_by e.moment e.act (standing h)) (λ p. among_behind (new_pubs e h) (pubs h) (shown p))
    (each_kept (IsShownAmong (pubs h)) (λ m i p among. among) e.moment e.act (standing h) (standing_among h)))

-- each entry of a feed is the publication of its number
pub feed_among : (h : History) (s : Bytes) → Each (λ (d : Dispatch). IsAmong (pubs h) d.shown) (feed h s)
feed_among h s = each_feed (IsShownAmong (pubs h)) (λ (d : Dispatch). IsAmong (pubs h) d.shown) h s (λ p r among is. among) (standing_among h)

pub waiting_among : (h : History) (s : Bytes) → Each (λ (d : Dispatch). IsAmong (pubs h) d.shown) (waiting h s)
waiting_among h s = each_waiting (IsShownAmong (pubs h)) (λ (d : Dispatch). IsAmong (pubs h) d.shown) h s (λ p r among is. among) (standing_among h)

-- the publication at a place, from 0 for the newest, as it is shown
pub number_shown : (ps : List Pub) (k : ℕ) (it : Publication) → CountsDown ps → slice_get (map shown ps) k ≡ Some it → it.number + k ≡ length ps
number_shown [] k it down is = absurd (none_some it is)
number_shown (q ∷ ps) zero it down is = let n : q.number ≡ it.number = ap (λ (x : Publication). x.number) (some_is (shown q) it is) in omega (arith, n, down.0)
number_shown (q ∷ ps) (suc k) it down is = let rest = number_shown ps k it down.1 is in omega (arith, rest)

-- two of one number are one
pub same_number : (ps : List Pub) (a b : Publication) → CountsDown ps → IsAmong ps a → IsAmong ps b → a.number ≡ b.number → a ≡ b
same_number ps a b down one two same =
    let m = number_shown ps one.0 a down one.1 in
    let n = number_shown ps two.0 b down two.1 in
    let places : one.0 ≡ two.0 = omega (arith, m, n, same) in
    some_is a b (sym one.1 ∙ ap (slice_get (map shown ps)) places ∙ two.1)

-- what holds of all as they are shown holds of one of them
pub each_among : (Q : Publication → Type 0) (ps : List Pub) (it : Publication) → Each (λ (p : Pub). Q (shown p)) ps → IsAmong ps it → Q it
each_among Q ps it all among = each_get Q (map shown ps) among.0 it (each_shown ps all) among.1
  where
    each_shown : (l : List Pub) → Each (λ (p : Pub). Q (shown p)) l → Each Q (map shown l)
    each_shown [] all = tt
    each_shown (p ∷ l) all = (all.0, each_shown l all.1)

-- ---- the numbers of what stands fall

abbrev pub Falls : List Pub → Type 0
Falls [] = Unit {0}
Falls (p ∷ ps) = Each (λ (q : Pub). q.number < p.number) ps × Falls ps

pub falls_filter : (t : Pub → Bool) (ps : List Pub) → Falls ps → Falls (filter t ps)
falls_filter t [] falls = tt
falls_filter t (p ∷ ps) falls =
    elim (t p) as (λ b. Falls (cond b (p ∷ filter t ps) (filter t ps))) [
      | true ↦ (each_filter (λ (q : Pub). q.number < p.number) t ps falls.0, falls_filter t ps falls.1)
      | false ↦ falls_filter t ps falls.1
    ]

falls_left : (m i : ℕ) (ps : List Pub) → Falls ps → Falls (taken_back m i ps)
falls_left m i [] falls = tt
falls_left m i (p ∷ ps) falls = (lower ps falls.0, falls_left m i ps falls.1)
  where
    lower : (l : List Pub) → Each (λ (q : Pub). q.number < p.number) l → Each (λ (q : Pub). q.number < p.number) (taken_back m i l)
    lower [] all = tt
    lower (q ∷ l) all = (all.0, lower l all.1)

pub falls_kept : (m : ℕ) (act : Act) (ps : List Pub) → Falls ps → Falls (kept_by m act ps)
falls_kept m (Request caller number (Deschedule i)) ps falls = falls_filter (λ p. not (is_first_of i p)) ps falls
falls_kept m (Request caller number (Kill i session note)) ps falls = falls_left m i ps falls
falls_kept m (Request caller number (Recall i session note)) ps falls = falls_left m i ps falls
falls_kept m (Request caller number command) ps falls = falls
falls_kept m _ ps falls = falls

-- every number is at most so much
abbrev pub NumbersTo : ℕ → List Pub → Type 0
NumbersTo n ps = Each (λ (p : Pub). p.number ≤ n) ps

falls_item : (h : History) (w : Made) (issue : Issue) (o : Option Item) (ps : List Pub) → NumbersTo (length w.pubs) ps → Falls ps → Falls (pubs_of_item h w issue o ++ ps)
falls_item h w issue None ps to falls = falls
falls_item h w issue (Some it) ps to falls =
    (each_map (λ (q : Pub). q.number ≤ length w.pubs) (λ (q : Pub). q.number < length w.pubs + 1) ps (λ q le. omega (arith, le)) to, falls)

falls_issue : (h : History) (w : Made) (o : Option Issue) (ps : List Pub) → NumbersTo (length w.pubs) ps → Falls ps → Falls (pubs_of_issue h w o ++ ps)
falls_issue h w None ps to falls = falls
falls_issue h w (Some issue) ps to falls = falls_item h w issue issue.after ps to falls

pub standing_numbers : (h : History) → Each (NumberTo (length (pubs h))) (standing h)
standing_numbers h =
    each_map (IsShownAmong (pubs h)) (NumberTo (length (pubs h))) (standing h)
    (λ p among. each_among (λ (it : Publication). (1 ≤ it.number) × (it.number ≤ length (pubs h))) (pubs h) (shown p) (pub_numbers h) among) (standing_among h)

pub standing_falls : (h : History) → Falls (standing h)
standing_falls [] = tt
standing_falls (e ∷ h) =
    falls_issue h (made h) (issued_by h (made h) e.moment e.act) (kept_by e.moment e.act (standing h))
    (each_kept (λ (p : Pub). p.number ≤ length (pubs h)) (λ m i p le. le) e.moment e.act (standing h)
    (each_map (NumberTo (length (pubs h))) (λ (p : Pub). p.number ≤ length (pubs h)) (standing h) (λ p to. to.1) (standing_numbers h)))
    (falls_kept e.moment e.act (standing h) (standing_falls h))

-- ---- what is published is of an item that is there

-- from 1 to so many
abbrev pub ItemTo : ℕ → ℕ → Type 0
ItemTo n i = (1 ≤ i) × (i ≤ n)

to_more : (a b i : ℕ) → a ≤ b → ItemTo a i → ItemTo b i
to_more a b i le to = (to.0, omega (arith, to.1, le))

no_zero : (i : ℕ) → (suc i == 0) ≡ false
no_zero i = grind (arith, nat_tests)

less_one : (i : ℕ) → suc i - 1 ≡ i
less_one i = omega arith

-- item i of a list is there where i is one of its numbers
pub numbered_there : (items : List Item) (i : ℕ) (it : Item) → item_numbered items i ≡ Some it → ItemTo (length items) i
numbered_there items zero it is = absurd (none_some it is)
numbered_there items (suc i) it is = let lt = get_within items i it (rw (no_zero i, less_one i) at is) in (omega arith, omega (arith, lt))

new_to : (items : List Item) (it : Item) → ItemTo (length (items ++ it ∷ [])) (length items + 1)
new_to items it = let one = pushed_length items it in (omega arith, omega (arith, one))

behind_to : (w : Made) (m : ℕ) (caller : Bytes) (command : Command) (it : Item) → item_after w m caller command ≡ Some it → ItemTo (length w.items) (named_item command)
behind_to w m caller command it is =
    let after : Item → Item = λ x. changed_by caller command (at_moment m (standing_first (named_item command) w.standing) x) in
    let found = mapped after (item_numbered w.items (named_item command)) it is in
    numbered_there w.items (named_item command) found.0 found.1

abbrev IssueTo : ℕ → Option Issue → Type 0
IssueTo n None = Unit {0}
IssueTo n (Some issue) = (it : Item) → issue.after ≡ Some it → ItemTo n issue.item

command_to : (w : Made) (m : ℕ) (caller : Bytes) (command : Command) → IssueTo (length (items_by_command w m caller command)) (issued_by_command w m caller command)
command_to w m caller (Flash story targets) = λ it is. new_to w.items _
command_to w m caller (Publish i session schedule embargo targets) =
    let command : Command = Publish i session schedule embargo targets in λ it is. to_more (length w.items) _ i (command_items w m caller command).0 (behind_to w m caller command it is)
command_to w m caller (Correct i session story) =
    let command : Command = Correct i session story in λ it is. to_more (length w.items) _ i (command_items w m caller command).0 (behind_to w m caller command it is)
command_to w m caller (Kill i session note) =
    let command : Command = Kill i session note in λ it is. to_more (length w.items) _ i (command_items w m caller command).0 (behind_to w m caller command it is)
command_to w m caller (Recall i session note) =
    let command : Command = Recall i session note in λ it is. to_more (length w.items) _ i (command_items w m caller command).0 (behind_to w m caller command it is)
command_to w m caller _ = tt

effect_to : (w : Made) (m : ℕ) (name : Bytes) (come : Incoming) (given : Effect) → IssueTo (length (items_by_effect w name come given)) (issued_by_effect w m name come given)
effect_to w m name come (NewAt inserted true) = λ it is. new_to w.items _
effect_to w m name come _ = tt

act_to : (h : History) (w : Made) (m : ℕ) (act : Act) → IssueTo (length (items_by h w m act)) (issued_by h w m act)
act_to h w m (Request caller number command) = command_to w m caller command
act_to h w m (Ingest name come) = effect_to w m name come (effect_by h w name come m)
act_to h w m _ = tt

abbrev pub OfItemTo : ℕ → Pub → Type 0
OfItemTo n p = ItemTo n p.item

item_to : (h : History) (w : Made) (n : ℕ) (issue : Issue) (o : Option Item) → ((it : Item) → o ≡ Some it → ItemTo n issue.item) → Each (OfItemTo n) (pubs_of_item h w issue o)
item_to h w n issue None to = tt
item_to h w n issue (Some it) to = (to it refl, tt)

issue_to : (h : History) (w : Made) (n : ℕ) (o : Option Issue) → IssueTo n o → Each (OfItemTo n) (pubs_of_issue h w o)
issue_to h w n None to = tt
issue_to h w n (Some issue) to = item_to h w n issue issue.after to

pub pub_items : (h : History) → Each (OfItemTo (item_count h)) (pubs h)
pub_items [] = tt
pub_items (e ∷ h) =
    each_append (OfItemTo (item_count (e ∷ h))) (new_pubs e h) (pubs h)
    (issue_to h (made h) (item_count (e ∷ h)) (issued_by h (made h) e.moment e.act) (act_to h (made h) e.moment e.act))
    (each_map (OfItemTo (item_count h)) (OfItemTo (item_count (e ∷ h))) (pubs h) (λ p. to_more (item_count h) (item_count (e ∷ h)) p.item (items_grow e h).0) (pub_items h))
