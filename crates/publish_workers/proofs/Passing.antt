-- What passes over a link in memory makes of what its receivers hold.
use Rattle.std.proofs.Common.{◌≡◌, ◌⊎◌, inl, inr, ◌+◌, ◌≤◌, ◌||◌, ℕ, zero, suc, Bool, true, false, cond, List, [], ◌∷◌, ◌++◌, length, get_or, Option, Some, None, refl, sym, ap, ◌∙◌, subst, append-nil}
use Rattle.std.specs.Prelude.{slice_get, slice_set}
use Rattle.std.specs.Option.{option_and_then}
use Rattle.std.proofs.lemmas.Bool.{true≢false}
use Rattle.std.proofs.lemmas.List.Quantifiers.{position-Some}
use Rattle.std.proofs.lemmas.Option.{slice_get-get_or}
use Rattle.news_types.specs.Names.{Bytes, same, is_in}
use Rattle.news_types.specs.Frames.{Frame, frame_bytes}
use Rattle.news_types.specs.Calls.{IsKept}
use Rattle.news_types.specs.Receiver as step
use Rattle.news_types.proofs.Members.{same_is, same_self, some_is, none_some}
use Rattle.news_io.specs.Keeper.{KeeperMeaning}
use Rattle.news_io.specs.Link.{Passed, Goes}
use Rattle.feed_receiver.specs.declared.receiver.Taken.{Taken}
use Rattle.feed_receiver.specs.declared.receiver.Taken.TheVariants.{BadFrame, NotMine, Known, Ahead, Accepted, Fault, Full, Memory}
use Rattle.feed_receiver.specs.Spelling.{receipt_bytes, IsReceipt}
use Rattle.feed_receiver.specs.Takes.{AreFrame, reaction_of, fate_of, Reacts, IsStep}
use Rattle.feed_receiver.specs.Holds.{Received, onto}
use Rattle.feed_links.specs.declared.memory_link.MemoryLink.{MemoryLink}
use Rattle.feed_links.specs.Links.{AllHold, memory_link, Moves}
use Rattle.feed_links.specs.Receivers.{Behind, reply_with, Replies, place, Comes, first_line, reply_from, Passes}
use Rattle.feed_links.proofs.Receipts.{receipt_is_line}
use Rattle.publish_workers.specs.Turns.{Exchange, Unsent, Unread, Replied, Receipted, passed_with}
use Rattle.publish_workers.specs.Completeness.{Takes}
use Rattle.publish_workers.specs.InMemory.{received_by, names_of}
use Rattle.publish_workers.proofs.Changes.{takes_grows}
use Rattle.publish_workers.proofs.Headings.{HasHeading, one_heading}

-- ---- calls one after another

module _ (names : List Bytes) where
  abbrev pub AllPass : List Passed → Behind → Behind → Type 0
  AllPass [] old new = new ≡ old
  AllPass (p ∷ passed) old new = (between : Behind) × Passes names p old between × AllPass passed between new

  pub pass_split : (xs ys : List Passed) (a c : Behind) → AllPass (xs ++ ys) a c → (b : Behind) × AllPass xs a b × AllPass ys b c
  pass_split [] ys a c all = (a, refl, all)
  pass_split (x ∷ xs) ys a c all = let rest = pass_split xs ys all.0 c all.2 in (rest.0, (all.0, all.1, rest.1), rest.2)

module _ {R : Type 0} (receivers : KeeperMeaning R) where
  -- what the link's receivers hold, and the reply that waits
  abbrev pub behind : List Received → MemoryLink R → Behind
  behind held link = record { held = held; waits = link.reply }

  pub goes_pass : (link later : MemoryLink R) (passed : List Passed) (held : List Received) → Goes (memory_link receivers) link later passed → AllHold receivers link held
      → (now : List Received) × AllHold receivers later now × AllPass (names_of link) passed (behind held link) (behind now later)
  goes_pass link later [] held goes holds = (held, subst (λ (l : MemoryLink R). AllHold receivers l held) (sym goes) holds, ap (λ (l : MemoryLink R). behind held l) goes)
  goes_pass link later (p ∷ passed) held goes holds =
      let moves : Moves receivers link goes.0 p = goes.1 in
      let one = moves.held held holds in
      let rest = goes_pass goes.0 later passed one.0 goes.2 one.1 in
      (rest.0, rest.1, (behind one.0 goes.0, one.2, subst (λ (ns : List Bytes). AllPass ns passed (behind one.0 goes.0) (behind rest.0 later)) moves.names rest.2))

-- ---- places

pub place_name : (s : Bytes) (names : List Bytes) (i : ℕ) → place s names ≡ Some i → slice_get names i ≡ Some s
place_name s names i is =
    let found = position-Some (same s) names i s is in
    slice_get-get_or names i s found.0 ∙ ap (λ (n : Bytes). Some n) (sym (same_is s (get_or names i s) found.1))

or_more : (a b : Bool) → b ≡ true → (a || b) ≡ true
or_more true b is = refl
or_more false b is = is

name_in : (s : Bytes) (names : List Bytes) (i : ℕ) → slice_get names i ≡ Some s → is_in s names ≡ true
name_in s [] i is = absurd (none_some s is)
name_in s (n ∷ names) zero is = subst (λ (t : Bytes). is_in s (t ∷ names) ≡ true) (sym (some_is n s is)) (rw (same_self s) refl)
name_in s (n ∷ names) (suc i) is = or_more (same s n) (is_in s names) (name_in s names i is)

set_other : {A : Type 0} (xs : List A) (i j : ℕ) (x : A) → (i ≡ j → ⊥) → slice_get (slice_set xs i x) j ≡ slice_get xs j
set_other [] i j x other = refl
set_other (y ∷ ys) zero zero x other = absurd (other refl)
set_other (y ∷ ys) zero (suc j) x other = refl
set_other (y ∷ ys) (suc i) zero x other = refl
set_other (y ∷ ys) (suc i) (suc j) x other = set_other ys i j x (λ is. other (ap suc is))

set_same : {A : Type 0} (xs : List A) (i : ℕ) (x y : A) → slice_get xs i ≡ Some y → slice_get (slice_set xs i x) i ≡ Some x
set_same [] i x y is = absurd (none_some y is)
set_same (z ∷ zs) zero x y is = refl
set_same (z ∷ zs) (suc i) x y is = set_same zs i x y is

none_then : {A B : Type 0} (f : A → Option B) (o : Option A) (y : B) → option_and_then f o ≡ Some y → (x : A) × (o ≡ Some x)
none_then f None y is = absurd (none_some y is)
none_then f (Some x) y is = (x, refl)

-- whose receiver holds something is one of the names
pub received_in : (names : List Bytes) (held : List Received) (s : Bytes) (r : Received) → received_by names held s ≡ Some r → is_in s names ≡ true
received_in names held s r is = let at = none_then (slice_get held) (place s names) r is in name_in s names at.0 (place_name s names at.0 at.1)

-- another's receiver stays
other_receiver : (names : List Bytes) (held : List Received) (r s : Bytes) (at : ℕ) (now : Received) → place r names ≡ Some at → same r s ≡ false → received_by names (slice_set held at now) s ≡ received_by names held s
other_receiver names held r s at now here other = by (place s names) refl
  where
    by : (o : Option ℕ) → place s names ≡ o → option_and_then (slice_get (slice_set held at now)) o ≡ option_and_then (slice_get held) o
    by None is = refl
    by (Some j) is =
        set_other held at j now
        (λ alike.
        let one : Some r ≡ Some s = sym (place_name r names at here) ∙ ap (λ (i : ℕ). slice_get names i) alike ∙ place_name s names j is in
        true≢false (sym (subst (λ (t : Bytes). same r t ≡ true) (some_is r s one) (same_self r)) ∙ other))

own_receiver : (names : List Bytes) (held : List Received) (s : Bytes) (at : ℕ) (was now : Received) → place s names ≡ Some at → slice_get held at ≡ Some was → received_by names (slice_set held at now) s ≡ Some now
own_receiver names held s at was now here there = ap (λ (o : Option ℕ). option_and_then (slice_get (slice_set held at now)) o) here ∙ set_same held at now was there

-- ---- a receiver is given a frame of its own

-- it takes the frame and replies with its receipt, or it keeps nothing and its reply is empty
pub record Given (s : Bytes) (k : ℕ) (frame : Bytes) (old new : Received) (reply : Bytes) : Type 0 where
  pub name : new.name ≡ s
  pub did : ((new.frames ≡ old.frames) × (reply ≡ [])) ⊎ (Takes s k frame old.frames new.frames × (reply ≡ receipt_bytes s (length new.frames)))

same_frame : (f : Frame) (s : Bytes) (k : ℕ) → f.to ≡ s → f.k ≡ k → f ≡ record { to = s; k = k; payload = f.payload }
same_frame f s k to number = ap (λ (t : Bytes). record { to = t; k = f.k; payload = f.payload }) to ∙ ap (λ (n : ℕ). record { to = s; k = n; payload = f.payload }) number

module _ (s : Bytes) (k : ℕ) (frame payload : Bytes) (heading : HasHeading (record { to = s; k = k; payload = payload })) (spelled : frame ≡ frame_bytes (record { to = s; k = k; payload = payload })) (was now : Received) (reply : Bytes) (named : was.name ≡ s) where
  -- the frame that it reads is this subscriber's with this number
  read_as : (f : Frame) → AreFrame f frame → (f.to ≡ s) × (f.k ≡ k)
  read_as f are = one_heading f (record { to = s; k = k; payload = payload }) (record { name = are.form.to; first = are.form.first; last = are.form.last }) heading (sym are.is ∙ spelled)

  -- what it makes of it, by its answer
  makes : (f : Frame) (answer : Taken) (more : List Frame) → Reacts was.name was.frames f answer more → (step.reacted (record { held = was.frames; doubt = [] }) f (fate_of answer) (reaction_of answer)).held ≡ was.frames ++ more
  makes f answer more reacts = ap (λ (t : step.Taken). (step.reacted (record { held = was.frames; doubt = [] }) f (fate_of answer) t).held) (sym reacts.reaction) ∙ reacts.grown []

  as_kept : (f : Frame) → AreFrame f frame → (frames : List Frame) → frames ≡ (step.taken was.name (record { held = was.frames; doubt = [] }) f IsKept).held → Takes s k frame was.frames frames
  as_kept f are frames is =
      let read = read_as f are in
      let one = same_frame f s k read.0 read.1 in
      record {
        payload = f.payload;
        is = are.is ∙ ap frame_bytes one;
        holds = is ∙ ap (λ (n : Bytes). (step.taken n (record { held = was.frames; doubt = [] }) f IsKept).held) named ∙ ap (λ (g : Frame). (step.taken s (record { held = was.frames; doubt = [] }) g IsKept).held) one;
      }

  module _ (more : List Frame) (grown : now ≡ onto more was) where
    name_is : now.name ≡ s
    name_is = ap (λ (r : Received). r.name) grown ∙ named

    frames_are : now.frames ≡ was.frames ++ more
    frames_are = ap (λ (r : Received). r.frames) grown

    nothing : was.frames ≡ was.frames ++ more → reply ≡ [] → Given s k frame was now reply
    nothing still silent = record { name = name_is; did = inl (frames_are ∙ sym still, silent) }

    something : Takes s k frame was.frames now.frames → reply ≡ receipt_bytes now.name (length now.frames) → Given s k frame was now reply
    something takes is = record { name = name_is; did = inr (takes, is ∙ ap (λ (n : Bytes). receipt_bytes n (length now.frames)) name_is) }

    -- one that is not tried
    untried : (f : Frame) → AreFrame f frame → (t : step.Taken) → step.reaction was.name (length was.frames) f ≡ t → step.reacted (record { held = was.frames; doubt = [] }) f IsKept t ≡ record { held = was.frames; doubt = [] }
        → was.frames ≡ was.frames ++ more → reply ≡ receipt_bytes now.name (length now.frames) → Given s k frame was now reply
    untried f are t reaction still same' is =
        something
        (as_kept f are now.frames
        (frames_are ∙ sym same' ∙ ap (λ (r : step.Receiver). r.held) (sym still) ∙ ap (λ (x : step.Taken). (step.reacted (record { held = was.frames; doubt = [] }) f IsKept x).held) (sym reaction)))
        is

    given_by : (answer : Taken) → IsStep was.name was.frames frame answer more → reply ≡ reply_with answer now → Given s k frame was now reply
    given_by (BadFrame at) done is = nothing (sym (append-nil was.frames) ∙ ap (λ (l : List Frame). was.frames ++ l) (sym done.1)) is
    given_by NotMine done is = untried done.0 done.1 step.NotMine done.2.reaction refl (makes done.0 NotMine more done.2) is
    given_by (Known count) done is = untried done.0 done.1 step.Known done.2.reaction refl (makes done.0 (Known count) more done.2) is
    given_by (Ahead count) done is = untried done.0 done.1 step.Ahead done.2.reaction refl (makes done.0 (Ahead count) more done.2) is
    given_by (Accepted n) done is = something (as_kept done.0 done.1 now.frames (frames_are ∙ sym (done.2.grown []))) is
    given_by Fault done is = nothing (makes done.0 Fault more done.2) is
    given_by (Full size count) done is = nothing (makes done.0 (Full size count) more done.2) is
    given_by Memory done is = nothing (makes done.0 Memory more done.2) is

  pub given : Replies was frame now reply → Given s k frame was now reply
  given replies = given_by replies.more replies.grown replies.answer replies.step replies.is

-- ---- what an exchange makes of the frames that the receiver holds

abbrev pub Reached : Bytes → ℕ → Bytes → Exchange → List Frame → List Frame → Type 0
Reached s k frame Unsent old new = new ≡ old
Reached s k frame Unread old new = (new ≡ old) ⊎ Takes s k frame old new
Reached s k frame (Replied reply) old new = ((new ≡ old) × (reply ≡ [])) ⊎ (Takes s k frame old new × (reply ≡ receipt_bytes s (length new)))
Reached s k frame (Receipted reply n at kept) old new = ((new ≡ old) × (reply ≡ [])) ⊎ (Takes s k frame old new × (reply ≡ receipt_bytes s (length new)))

-- an empty reply is read as it is, and so is a receipt
reads_own : (s reply : Bytes) → reply_from s (Some (s, reply)) ≡ first_line reply
reads_own s reply = ap (λ (b : Bool). cond b (first_line reply) []) (same_self s)

module _ (names : List Bytes) (s : Bytes) (k : ℕ) (frame payload : Bytes) (heading : HasHeading (record { to = s; k = k; payload = payload })) (spelled : frame ≡ frame_bytes (record { to = s; k = k; payload = payload })) where
  -- the receiver behind it
  pub record Has (held : List Received) (was : Received) (x : Exchange) : Type 0 where
    pub receiver : Received
    pub there : received_by names held s ≡ Some receiver
    pub name : receiver.name ≡ s
    pub reached : Reached s k frame x was.frames receiver.frames

  module _ (a : Behind) (was : Received) (is_there : received_by names a.held s ≡ Some was) (named : was.name ≡ s) where
    pub record Came (m : Behind) : Type 0 where
      pub now : Received
      pub reply : Bytes
      pub there : received_by names m.held s ≡ Some now
      pub given : Given s k frame was now reply
      pub waits : m.waits ≡ Some (s, reply)

    came : (m : Behind) → Comes names s frame a m → Came m
    came m comes =
        let one : Some comes.was ≡ Some was = sym (ap (λ (o : Option ℕ). option_and_then (slice_get a.held) o) comes.here ∙ comes.there) ∙ is_there in
        let same' : comes.was ≡ was = some_is comes.was was one in
        record {
          now = comes.now;
          reply = comes.reply;
          there = ap (λ (b : Behind). received_by names b.held s) comes.only ∙ own_receiver names a.held s comes.at comes.was comes.now comes.here comes.there;
          given = given s k frame payload heading spelled was comes.now comes.reply named (subst (λ (r : Received). Replies r frame comes.now comes.reply) same' comes.replies);
          waits = ap (λ (b : Behind). b.waits) comes.only;
        }

    module _ (least : k ≤ length was.frames + 1) (form : (n : ℕ) → (n ≡ length was.frames) ⊎ (n ≡ k) → IsReceipt s n) where
      -- the reply as it is read
      read : (now : Received) (reply bytes : Bytes) → Given s k frame was now reply → bytes ≡ first_line reply → ((now.frames ≡ was.frames) × (bytes ≡ [])) ⊎ (Takes s k frame was.frames now.frames × (bytes ≡ receipt_bytes s (length now.frames)))
      read now reply bytes g is =
          elim (g.did) [
            | inl still ↦ inl (still.0, is ∙ ap first_line still.1)
            | inr takes ↦ inr (
              takes.0,
              is ∙ ap first_line takes.1 ∙ receipt_is_line s (length now.frames) (form (length now.frames) ((takes_grows s k frame was.frames now.frames least takes.0).2)),
            )
          ]

      replied : (m mid c : Behind) (reply : Bytes) → Came m → (reply ≡ reply_from s m.waits) × (mid ≡ record { held = m.held; waits = None }) → c ≡ mid
          → (now : Received) × (received_by names c.held s ≡ Some now) × (now.name ≡ s) × (((now.frames ≡ was.frames) × (reply ≡ [])) ⊎ (Takes s k frame was.frames now.frames × (reply ≡ receipt_bytes s (length now.frames))))
      replied m mid c reply one said end = (
        one.now,
        ap (λ (b : Behind). received_by names b.held s) (end ∙ said.1) ∙ one.there,
        one.given.name,
        read one.now one.reply reply one.given (said.0 ∙ ap (λ (o : Option (Bytes × Bytes)). reply_from s o) one.waits ∙ reads_own s one.reply),
      )

      -- its own frame reaches it, or not
      pub own_frame : (x : Exchange) (c : Behind) → AllPass names (passed_with s frame x) a c → Has c.held was x
      own_frame Unsent c all = record { receiver = was; there = ap (λ (b : Behind). received_by names b.held s) (all.2 ∙ all.1) ∙ is_there; name = named; reached = refl }
      own_frame Unread c all =
          let one = came all.0 all.1 in
          record {
            receiver = one.now;
            there = ap (λ (b : Behind). received_by names b.held s) (all.2.2 ∙ all.2.1) ∙ one.there;
            name = one.given.name;
            reached = elim (one.given.did) [ inl still ↦ inl still.0 | inr takes ↦ inr takes.0 ];
          }
      own_frame (Replied reply) c all = let r = replied all.0 all.2.0 c reply (came all.0 all.1) all.2.1 all.2.2 in record { receiver = r.0; there = r.1; name = r.2; reached = r.3 }
      own_frame (Receipted reply n at kept) c all = let r = replied all.0 all.2.0 c reply (came all.0 all.1) all.2.1 all.2.2 in record { receiver = r.0; there = r.1; name = r.2; reached = r.3 }

-- a frame of another leaves it as it was
module _ (names : List Bytes) (r s frame : Bytes) (other : same r s ≡ false) (a : Behind) where
  passed_by : (m : Behind) → Comes names r frame a m → received_by names m.held s ≡ received_by names a.held s
  passed_by m comes = ap (λ (b : Behind). received_by names b.held s) comes.only ∙ other_receiver names a.held r s comes.at comes.now comes.here other

  pub other_frame : (x : Exchange) (c : Behind) → AllPass names (passed_with r frame x) a c → received_by names c.held s ≡ received_by names a.held s
  other_frame Unsent c all = ap (λ (b : Behind). received_by names b.held s) (all.2 ∙ all.1)
  other_frame Unread c all = ap (λ (b : Behind). received_by names b.held s) (all.2.2 ∙ all.2.1) ∙ passed_by all.0 all.1
  other_frame (Replied reply) c all = ap (λ (b : Behind). received_by names b.held s) (all.2.2 ∙ all.2.1.1) ∙ passed_by all.0 all.1
  other_frame (Receipted reply n at kept) c all = ap (λ (b : Behind). received_by names b.held s) (all.2.2 ∙ all.2.1.1) ∙ passed_by all.0 all.1
