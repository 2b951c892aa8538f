-- Each wrong step breaks a law: the events that show it are computed.
use Rattle.std.proofs.Common.{◌≡◌, ℕ, ◌<◌, ◌≤◌, ◌⊎◌, inl, inr, true, false, Option, Some, None, List, [], ◌∷◌, ◌++◌, refl, sym, ap, arith}
use Rattle.std.specs.Prelude.{codes}
use mathlib.Core.Bool.{true≢false}
use Rattle.news_types.specs.declared.entry.Act.TheVariants.{Advance, Halt, Request}
use Rattle.news_types.specs.declared.entry.Act.{Act}
use Rattle.news_types.specs.declared.entry.Entry.{Entry}
use Rattle.news_types.specs.declared.command.Command.{Command}
use Rattle.news_types.specs.declared.query.Query.TheVariants.{Check}
use Rattle.news_types.specs.declared.command.Command.TheVariants.{AddSubscriber, SetSubscriber, Flash, Lock, Kill, Stop}
use Rattle.news_types.specs.declared.words.Format.TheVariants.{Ninjs}
use Rattle.news_types.specs.declared.words.Kind.TheVariants as kind
use Rattle.news_types.specs.Names.{Bytes}
use Rattle.news_types.specs.Users.{admin}
use Rattle.news_types.specs.Members.{Each}
use Rattle.news_types.specs.History.{History, moment_at}
use Rattle.news_types.specs.Due.{Pub}
use Rattle.news_types.specs.Feeds.{Dispatch}
use Rattle.news_types.specs.Frames.{Frame}
use Rattle.news_types.specs.Calls.{Halted, Full, Fault, place_of, IsKept, IsFailed, front}
use Rattle.news_types.proofs.Members.{none_some, each_get}
use Rattle.world_laws.specs.World.{Event, Given, Requests, Ticks, Halts, Asks, Claims, Sends, FrameComes, Forges, Reopens, ReceiverReopens, happens, after}
use Rattle.world_laws.specs.FeedOrder.{EndsWithKills, OnlyGrow, ReachesAll}
use Rattle.world_laws.specs.Headline.{AsksFor, IsNext, IsTold, IsAskedFor, HeadlineHolds, ReceiptsHoldAnyhow}
use Rattle.world_laws.specs.Example.{headlines, story, fire, goal, alpha, session, asks, morning}
use Rattle.world_laws.proofs.Headline.{headline_holds}
use Rattle.world_laws.specs.WrongWorlds.{skips_a_frame, takes_anothers_frame, receiver_doubts_what_it_kept, receipts_before_it_keeps, answers_before_it_keeps, doubts_what_it_kept, applies_repeats, sends_before_release, forgets_at_a_stop, keeps_nothing, replies_anew, claims_without_a_tick, keeps_any_receipt, invents_a_kill, halts_twice, dates_ahead, keeps_what_it_refused, answers_from_before, in_order_of_number, despite_kills, to_those_permitted_now}

abbrev two_flashes : List Event
two_flashes =
    asks 1 (AddSubscriber alpha Ninjs (codes "all" ∷ []) 0) IsKept ∷
    asks 2 (Flash (story goal) []) IsKept ∷
    asks 3 (Flash (story fire) []) IsKept ∷ []

abbrev beta : Bytes
beta = codes "beta"

k_of : Option Frame → ℕ
k_of None = 0
k_of (Some f) = f.k

-- ---- receivers

pub skips : HeadlineHolds skips_a_frame → ⊥
unfolding k_of
skips law =
    let one : 2 ≡ 1 = ap k_of ((law headlines (two_flashes ++ Sends alpha 2 ∷ FrameComes 0 alpha IsKept ∷ [])).prefix alpha 1 (omega arith) (omega arith)) in
    omega (arith, one)

pub anothers : HeadlineHolds takes_anothers_frame → ⊥
anothers law =
    let few : 1 ≤ 0 = (law headlines (two_flashes ++ Sends alpha 1 ∷ FrameComes 0 beta IsKept ∷ [])).within beta in
    omega (arith, few)

pub receiver_doubts : HeadlineHolds receiver_doubts_what_it_kept → ⊥
unfolding k_of
receiver_doubts law =
    let two : 1 ≡ 2 = ap k_of ((law headlines (two_flashes ++ Sends alpha 1 ∷ FrameComes 0 alpha IsKept ∷ ReceiverReopens alpha (Some 0) ∷ [])).prefix alpha 2 (omega arith) (omega arith)) in
    omega (arith, two)

pub receipts_first : HeadlineHolds receipts_before_it_keeps → ⊥
receipts_first law =
    let few : 1 ≤ 0 = (law headlines (two_flashes ++ Sends alpha 1 ∷ FrameComes 0 alpha IsFailed ∷ [])).receipts.0 in
    omega (arith, few)

pub forged : ReceiptsHoldAnyhow happens → ⊥
forged law =
    let few : 2 ≤ 0 = (law headlines alpha (two_flashes ++ Forges alpha 2 1000 IsKept ∷ [])).heard in
    omega (arith, few)

-- ---- the server

pub answers_first : HeadlineHolds answers_before_it_keeps → ⊥
answers_first law =
    let none = (law headlines (asks 1 Stop IsFailed ∷ [])).entries.0 (omega arith) in
    none_some none.0 none.1

pub doubts : HeadlineHolds doubts_what_it_kept → ⊥
doubts law =
    let number : 1 ≡ 2 = (law headlines (asks 1 Stop IsKept ∷ [])).doubt.0.2.0 in
    omega (arith, number)

pub repeats : HeadlineHolds applies_repeats → ⊥
repeats law =
    let rise : 1 < 1 = (law headlines (asks 1 Stop IsKept ∷ asks 1 Stop IsKept ∷ [])).numbers 1 2 1000 1000 admin 1 1 Stop Stop (omega arith) refl refl in
    omega (arith, rise)

pub forgets : HeadlineHolds forgets_at_a_stop → ⊥
forgets law =
    let none = (law headlines (asks 1 Stop IsKept ∷ Reopens None ∷ [])).entries.0 (omega arith) in
    none_some none.0 none.1

pub keeps_none : HeadlineHolds keeps_nothing → ⊥
keeps_none law =
    let none = (law headlines (asks 1 Stop IsKept ∷ [])).entries.0 (omega arith) in
    none_some none.0 none.1

pub anew : HeadlineHolds replies_anew → ⊥
anew law =
    let reply = (law headlines (asks 1 Stop IsKept ∷ asks 1 Stop IsKept ∷ [])).replies.0 in
    none_some _ reply.1

pub no_tick : HeadlineHolds claims_without_a_tick → ⊥
no_tick law = none_some _ ((law headlines (morning ++ Claims [] 2000 IsKept IsKept ∷ [])).ticks.0 tt (record { moment = 2000; act = Advance }) refl)

pub any_receipt : HeadlineHolds keeps_any_receipt → ⊥
any_receipt law =
    let few : 1 ≤ 0 = (law headlines (asks 1 (AddSubscriber alpha Ninjs (codes "all" ∷ []) 0) IsKept ∷ Forges alpha 1 1000 IsKept ∷ [])).legal.2.1 in
    omega (arith, few)

-- what holds of no answer does not hold of the one that asked for an entry
no_given : (P : Given → Type 0) (out : List Given) (h : History) (n : ℕ) (e : Entry) (is : IsAskedFor out h n e) → Each (λ g. P g → ⊥) out → P is.given → ⊥
no_given P out h n e is none = each_get (λ (g : Given). P g → ⊥) out is.which is.given none is.there

number_asked : Act → ℕ
number_asked (Request caller number command) = number
number_asked _ = 0

-- a request of another number is not asked for
other_number : (m n : ℕ) (c d : Command) → (m ≡ n → ⊥) → Request admin m c ≡ Request admin n d → ⊥
unfolding number_asked
other_number m n c d other same = other (ap number_asked same)

-- a story went out and is locked, so that it may be killed
abbrev may_be_killed : List Event
may_be_killed =
    asks 1 (AddSubscriber alpha Ninjs (codes "all" ∷ []) 0) IsKept ∷
    asks 2 (Flash (story goal) []) IsKept ∷
    asks 3 (Lock 1 session) IsKept ∷ []

pub invents : HeadlineHolds invents_a_kill → ⊥
invents law =
    let e : Entry = record { moment = 1000; act = Request admin 4 (Kill 1 session []) } in
    let is = (law headlines (may_be_killed ++ Ticks 1000 IsKept ∷ [])).asked 4 e refl in
    no_given (λ g. AsksFor g.call e.act) _ _ 4 e is ((λ same. other_number 4 3 _ _ (λ k. omega (arith, k)) same), ((λ same. other_number 4 2 _ _ (λ k. omega (arith, k)) same), ((λ same. other_number 4 1 _ _ (λ k. omega (arith, k)) same), tt))) is.asks

pub twice : HeadlineHolds halts_twice → ⊥
twice law =
    let is = (law headlines (Halts 1000 IsKept ∷ [])).asked 2 (record { moment = 1000; act = Halt }) refl in
    no_given (λ g. IsNext g.call Halt g.at 2) _ _ 2 _ is (too_far, tt) is.next
  where
    too_far : IsNext Halted Halt 0 2 → ⊥
    too_far next = let far : 2 ≡ 1 = next in omega (arith, far)

pub ahead : HeadlineHolds dates_ahead → ⊥
ahead law =
    let entry : Entry = record { moment = 1001; act = Request admin 1 Stop } in
    let is = (law headlines (asks 1 Stop IsKept ∷ [])).asked 1 entry refl in
    no_given (λ g. entry.moment ≡ moment_at (front (entry ∷ []) g.at) g.reading) _ _ 1 entry is (too_late, tt) is.moment
  where
    too_late : moment_at [] 1001 ≡ moment_at [] 1000 → ⊥
    too_late same = let late : 1001 ≡ 1000 = same in omega (arith, late)

pub refused : HeadlineHolds keeps_what_it_refused → ⊥
refused law =
    let is = (law headlines (asks 1 Stop IsKept ∷ [])).asked 1 (record { moment = 1000; act = Request admin 1 Stop }) refl in
    no_given (λ g. IsTold g.call (Request admin 1 Stop) g.answer 1) _ _ 1 _ is (no_number, tt) is.told
  where
    no_number : (place_of Full ≡ 1) ⊎ (Full ≡ Fault) → ⊥
    no_number (inl none) = let number : 0 ≡ 1 = none in omega (arith, number)
    no_number (inr same) = cc

pub from_before : HeadlineHolds answers_from_before → ⊥
from_before law =
    let few : 1 ≤ 0 = (law headlines (asks 1 Stop IsKept ∷ Asks Check 1000 IsKept ∷ [])).places.0.0.1 in
    omega (arith, few)

pub early : HeadlineHolds sends_before_release → ⊥
early law = none_some _ (law headlines (morning ++ Sends alpha 1 ∷ [])).frames.0

-- ---- feeds

first_number : List Dispatch → ℕ
first_number [] = 0
first_number (d ∷ ds) = d.shown.number

-- the first of two stories is held back, and released behind the second
abbrev held_back : List Event
held_back = morning ++ asks 7 (Flash (story goal) []) IsKept ∷ []

pub by_number : OnlyGrow in_order_of_number → ⊥
unfolding first_number
by_number law =
    let legal = (headline_holds headlines (held_back ++ Ticks 2000 IsKept ∷ [])).legal in
    let grown = law (record { moment = 2000; act = Advance } ∷ []) (after (happens headlines) held_back).server.list alpha legal in
    let same : 1 ≡ 2 = ap first_number grown.1 in
    omega (arith, same)

abbrev the_flash : Pub
the_flash = record { number = 1; item = 1; version = 1; kind = kind.First; story = story goal; release = 1000; targets = []; due = record { subscriber = alpha; release = 1000 } ∷ [] }

-- a subscriber had the story, and is switched off
abbrev switched_off : List Event
switched_off =
    asks 1 (AddSubscriber alpha Ninjs (codes "all" ∷ []) 0) IsKept ∷
    asks 2 (Flash (story goal) []) IsKept ∷
    asks 3 (SetSubscriber alpha false (codes "all" ∷ []) [] None) IsKept ∷ []

pub permitted_now : ReachesAll to_those_permitted_now → ⊥
permitted_now law =
    let legal = (headline_holds headlines switched_off).legal in
    let due : false ≡ true = law (after (happens headlines) switched_off).server.list 0 the_flash kind.Kill (story goal) 1000 1000 [] alpha legal refl refl refl (omega arith) in
    true≢false (sym due)

-- a subscriber with a lag of ten minutes, and a story that is killed before it came
abbrev killed_early : List Event
killed_early =
    asks 1 (AddSubscriber alpha Ninjs (codes "all" ∷ []) 600) IsKept ∷
    asks 2 (Flash (story goal) []) IsKept ∷
    asks 3 (Lock 1 session) IsKept ∷
    asks 4 (Kill 1 session []) IsKept ∷
    Requests admin 5 (Flash (story fire) []) 1600 IsKept ∷ []

abbrev the_kill : Pub
the_kill = record { number = 2; item = 1; version = 2; kind = kind.Kill; story = record (story goal) { body = []; html = false }; release = 1000; targets = []; due = [] }

abbrev the_story : Dispatch
the_story = record { shown = record { number = 1; item = 1; version = 1; kind = kind.First; story = story goal; release = 1000 }; release = 1600 }

pub despite : EndsWithKills despite_kills → ⊥
despite law =
    let legal = (headline_holds headlines killed_early).legal in
    let late : 1600 ≤ 1000 = law (after (happens headlines) killed_early).server.list legal alpha 0 1 the_story the_kill refl refl refl refl (omega arith) in
    omega (arith, late)
