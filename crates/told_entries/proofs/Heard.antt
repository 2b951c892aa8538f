-- What a line of the audit says is heard again.
use Rattle.std.specs.Prelude.{◌≡◌, ℕ, ◌^◌, ◌<◌, ◌==◌, Bool, true, false, List, [], ◌∷◌, codes, if◌then◌else◌, Option, Some, None, option_map, option_and_then, Result, Ok, Err}
use Rattle.std.proofs.Common.{refl, ap, arith}
use Rattle.json.proofs.Printed.Utf8.{IsUtf8-are_ascii}
use Rattle.serde_json.specs.Data as json
use Rattle.serde_json.specs.Data.{Data, Members, no_members, put}
use Rattle.serde_json.specs.Find.{get, as_number, as_u64, as_str}
use Rattle.news_types.specs.declared.entry.Entry.{Entry}
use Rattle.news_types.specs.declared.entry.Act.{Act}
use Rattle.news_types.specs.declared.entry.Act.TheVariants.{Advance, Attempt, Receipt, Halt, Ingest, Request}
use Rattle.news_types.specs.declared.entry.Reply.{Reply}
use Rattle.news_types.specs.declared.command.Command.{Command}
use Rattle.news_types.specs.declared.story.Story.{Story}
use Rattle.news_types.specs.declared.story.Incoming.{Incoming}
use Rattle.news_types.specs.declared.words.PubStatus.{PubStatus}
use Rattle.news_types.specs.declared.words.PubStatus.TheVariants as status
use Rattle.news_types.specs.Names.{Bytes, same}
use Rattle.news_types.specs.Fits.{FitsIncoming}
use Rattle.news_types.specs.FitsCommands.{FitsCommand}
use Rattle.byte_formats.specs.Spelling.{IsName}
use Rattle.byte_formats.proofs.Names.{name_text}
use Rattle.entry_codec.specs.Fits.{FitsAct}
use Rattle.entry_codec.specs.Formed.{IsFormedCommand, IsFormedIncoming, IsFormedAct, IsEntry}
use Rattle.desk_lines.specs.declared.property.LineProperty.{LineProperty}
use Rattle.desk_lines.specs.declared.asked.Asked.{Asked}
use Rattle.desk_lines.specs.declared.asked.Asked.TheVariants as asked
use Rattle.desk_lines.specs.Forms.{among, ◌means◌}
use Rattle.desk_lines.specs.Objects.{story}
use Rattle.desk_lines.specs.Lines.{any}
use Rattle.told_objects.specs.Members.{◌with◌, text, number, inner}
use Rattle.told_entries.specs.Words.{status_word}
use Rattle.told_entries.specs.Members.{number_unless_zero}
use Rattle.told_entries.specs.Objects.{story_members}
use Rattle.told_entries.specs.Commands.{request_members}
use Rattle.told_entries.specs.Entries.{released, replied, ingest_members, act_members, entry_members}
use Rattle.told_entries.proofs.Sound.{IsSound}
use Rattle.told_entries.proofs.SoundForms.{IsWord, word_text, literal, story_sound}
use Rattle.told_entries.proofs.Inner.{story_back}
use Rattle.told_entries.proofs.SoundRequests.{request_sound}
use Rattle.told_entries.proofs.AskingAll.{request_back}
use Rattle.told_entries.proofs.Replies.{IsWholeReply}

-- ---- what an object says

abbrev number_at : Bytes → Data → Option ℕ
number_at key d = option_and_then as_u64 (option_and_then as_number (get key d))

abbrev text_at : Bytes → Data → Option Bytes
text_at key d = option_and_then as_str (get key d)

abbrev said : {A : Type 0} → Result A LineProperty → Option A
said (Ok a) = Some a
said (Err p) = None

abbrev requested : Option Asked → Option Act
requested (Some (asked.Request caller n command)) = Some (Request caller n command)
requested _ = None

abbrev statuses : List (Bytes × PubStatus)
statuses = ("usable" means status.Usable) ∷ ("withheld" means status.Withheld) ∷ ("canceled" means status.Canceled) ∷ []

abbrev brought : Data → Option Act
brought d =
    option_and_then (λ provider. option_and_then (λ identity. option_and_then (λ created. option_and_then (λ embargo. option_and_then (λ state. option_map (λ told.
    Ingest provider (record { identity = identity; created = created; embargo = embargo; status = state; story = told }))
    (option_and_then (λ v. said (story v)) (get (codes "story") d))) (option_and_then (among statuses) (text_at (codes "status") d))) (number_at (codes "embargo") d)) (number_at (codes "created") d))
    (text_at (codes "identity") d)) (text_at (codes "provider") d)

abbrev act_by : Bytes → Data → Option Act
act_by word d =
    if same word (codes "advance") then Some Advance
    else if same word (codes "halt") then Some Halt
    else if same word (codes "attempt") then option_and_then (λ s. option_map (λ k. Attempt s k) (number_at (codes "k") d)) (text_at (codes "subscriber") d)
    else if same word (codes "receipt") then option_and_then (λ s. option_map (λ n. Receipt s n) (number_at (codes "n") d)) (text_at (codes "subscriber") d)
    else if same word (codes "ingest") then brought d
    else option_and_then (λ v. requested (said (any v))) (get (codes "request") d)

-- the entry that a line's object is of
abbrev pub entry_of : Data → Option Entry
entry_of d = option_and_then (λ m. option_map (λ act. record { moment = m; act = act }) (option_and_then (λ word. act_by word d) (text_at (codes "act") d))) (number_at (codes "moment") d)

-- ---- the reply's members, by which of its numbers are 0

abbrev with_item : Bool → Reply → Members → Members
with_item zero reply members = if zero then members else put (codes "item") (json.number (json.unsigned reply.item)) members

abbrev with_publication : Bool → Reply → Members → Members
with_publication zero reply members = if zero then members else put (codes "publication") (json.number (json.unsigned reply.publication)) members

abbrev with_release : Bool → Bool → Reply → Members → Members
with_release none zero reply members = if none then members else if zero then members else put (codes "release") (json.number (json.unsigned reply.release)) members

abbrev with_reply : Bool → Bool → Bool → Reply → Members → Members
with_reply a b c reply members = with_release b c reply (with_publication b reply (with_item a reply members))

abbrev as_line : ℕ → ℕ → Members → Data
as_line n m members = json.object (members with number "entry" n with number "moment" m)

status_back : (s : PubStatus) → among statuses (status_word s) ≡ Some s
status_back status.Usable = refl
status_back status.Withheld = refl
status_back status.Canceled = refl

status_is : (s : PubStatus) → IsWord (status_word s)
status_is status.Usable = literal _ refl (omega arith)
status_is status.Withheld = literal _ refl (omega arith)
status_is status.Canceled = literal _ refl (omega arith)

abbrev requesting : Bytes → ℕ → Command → Members
requesting caller k command = no_members with text "act" (codes "request") with inner "request" (request_members caller k command)

-- ---- requests

request_heard : (a b c : Bool) (n m : ℕ) (r : Reply) (caller : Bytes) (k : ℕ) (command : Command) → IsName caller → k < 2 ^ 64 → FitsCommand command → IsFormedCommand command
    → entry_of (as_line n m (with_reply a b c r (requesting caller k command))) ≡ Some (record { moment = m; act = Request caller k command })
request_heard true true true n m r caller k command by small fits formed = ap (λ o. option_map (λ act. record { moment = m; act = act }) (requested (said o))) (request_back caller k command by small fits formed)
request_heard true true false n m r caller k command by small fits formed = ap (λ o. option_map (λ act. record { moment = m; act = act }) (requested (said o))) (request_back caller k command by small fits formed)
request_heard true false true n m r caller k command by small fits formed = ap (λ o. option_map (λ act. record { moment = m; act = act }) (requested (said o))) (request_back caller k command by small fits formed)
request_heard true false false n m r caller k command by small fits formed = ap (λ o. option_map (λ act. record { moment = m; act = act }) (requested (said o))) (request_back caller k command by small fits formed)
request_heard false true true n m r caller k command by small fits formed = ap (λ o. option_map (λ act. record { moment = m; act = act }) (requested (said o))) (request_back caller k command by small fits formed)
request_heard false true false n m r caller k command by small fits formed = ap (λ o. option_map (λ act. record { moment = m; act = act }) (requested (said o))) (request_back caller k command by small fits formed)
request_heard false false true n m r caller k command by small fits formed = ap (λ o. option_map (λ act. record { moment = m; act = act }) (requested (said o))) (request_back caller k command by small fits formed)
request_heard false false false n m r caller k command by small fits formed = ap (λ o. option_map (λ act. record { moment = m; act = act }) (requested (said o))) (request_back caller k command by small fits formed)

request_sounds : (a b c : Bool) (n m : ℕ) (r : Reply) (caller : Bytes) (k : ℕ) (command : Command) → n < 2 ^ 64 → m < 2 ^ 64 → IsWholeReply r → IsName caller → k < 2 ^ 64 → FitsCommand command → IsFormedCommand command
    → IsSound 5 (as_line n m (with_reply a b c r (requesting caller k command)))
request_sounds true true true n m r caller k command hn hm w by small fits formed =
    (refl, (refl, IsUtf8-are_ascii _ refl, (refl, hn, (refl, hm, (refl, request_sound 0 caller k command by small fits formed, tt)))))
request_sounds true true false n m r caller k command hn hm w by small fits formed =
    (refl, (refl, IsUtf8-are_ascii _ refl, (refl, hn, (refl, hm, (refl, request_sound 0 caller k command by small fits formed, tt)))))
request_sounds true false true n m r caller k command hn hm w by small fits formed =
    (refl, (refl, IsUtf8-are_ascii _ refl, (refl, hn, (refl, hm, (refl, w.publication, (refl, request_sound 0 caller k command by small fits formed, tt))))))
request_sounds true false false n m r caller k command hn hm w by small fits formed =
    (refl, (refl, IsUtf8-are_ascii _ refl, (refl, hn, (refl, hm, (refl, w.publication, (refl, w.release, (refl, request_sound 0 caller k command by small fits formed, tt)))))))
request_sounds false true true n m r caller k command hn hm w by small fits formed =
    (refl, (refl, IsUtf8-are_ascii _ refl, (refl, hn, (refl, w.item, (refl, hm, (refl, request_sound 0 caller k command by small fits formed, tt))))))
request_sounds false true false n m r caller k command hn hm w by small fits formed =
    (refl, (refl, IsUtf8-are_ascii _ refl, (refl, hn, (refl, w.item, (refl, hm, (refl, request_sound 0 caller k command by small fits formed, tt))))))
request_sounds false false true n m r caller k command hn hm w by small fits formed =
    (refl, (refl, IsUtf8-are_ascii _ refl, (refl, hn, (refl, w.item, (refl, hm, (refl, w.publication, (refl, request_sound 0 caller k command by small fits formed, tt)))))))
request_sounds false false false n m r caller k command hn hm w by small fits formed =
    (refl, (refl, IsUtf8-are_ascii _ refl, (refl, hn, (refl, w.item, (refl, hm, (refl, w.publication, (refl, w.release, (refl, request_sound 0 caller k command by small fits formed, tt))))))))

-- ---- what came in

abbrev coming : Bytes → Incoming → Members
coming provider i =
    no_members with text "act" (codes "ingest") with number "created" i.created with number "embargo" i.embargo with text "identity" i.identity
    with text "provider" provider with text "status" (status_word i.status) with inner "story" (story_members i.story)

-- with its status and its story as they were read
abbrev came : ℕ → Bytes → Incoming → Option PubStatus → Option Story → Option Entry
came m provider i state told =
    option_map (λ act. record { moment = m; act = act }) (option_and_then (λ s. option_map (λ t. Ingest provider (record { identity = i.identity; created = i.created; embargo = i.embargo; status = s; story = t })) told) state)

came_back : (m : ℕ) (provider : Bytes) (i : Incoming) → FitsIncoming i → came m provider i (among statuses (status_word i.status)) (said (story (json.object (story_members i.story)))) ≡ Some (record { moment = m; act = Ingest provider i })
came_back m provider i fits =
    (λ p. came m provider i (status_back i.status p) (said (story_back i.story fits.story p)))

ingest_heard : (a b c : Bool) (n m : ℕ) (r : Reply) (provider : Bytes) (i : Incoming) → FitsIncoming i
    → entry_of (as_line n m (with_reply a b c r (coming provider i))) ≡ Some (record { moment = m; act = Ingest provider i })
ingest_heard true true true n m r provider i fits = came_back m provider i fits
ingest_heard true true false n m r provider i fits = came_back m provider i fits
ingest_heard true false true n m r provider i fits = came_back m provider i fits
ingest_heard true false false n m r provider i fits = came_back m provider i fits
ingest_heard false true true n m r provider i fits = came_back m provider i fits
ingest_heard false true false n m r provider i fits = came_back m provider i fits
ingest_heard false false true n m r provider i fits = came_back m provider i fits
ingest_heard false false false n m r provider i fits = came_back m provider i fits

ingest_sounds : (a b c : Bool) (n m : ℕ) (r : Reply) (provider : Bytes) (i : Incoming) → n < 2 ^ 64 → m < 2 ^ 64 → IsWholeReply r → IsName provider → FitsIncoming i → IsFormedIncoming i
    → IsSound 5 (as_line n m (with_reply a b c r (coming provider i)))
ingest_sounds true true true n m r provider i hn hm w by fits formed =
    (refl, (refl, IsUtf8-are_ascii _ refl, (refl, omega (arith, fits.created), (refl, omega (arith, fits.embargo), (refl, hn, (refl, formed.identity, (refl, hm, (refl, name_text provider by, (refl, word_text _ (status_is i.status), (refl, story_sound 3 i.story fits.story formed.story, tt))))))))))
ingest_sounds true true false n m r provider i hn hm w by fits formed =
    (refl, (refl, IsUtf8-are_ascii _ refl, (refl, omega (arith, fits.created), (refl, omega (arith, fits.embargo), (refl, hn, (refl, formed.identity, (refl, hm, (refl, name_text provider by, (refl, word_text _ (status_is i.status), (refl, story_sound 3 i.story fits.story formed.story, tt))))))))))
ingest_sounds true false true n m r provider i hn hm w by fits formed =
    (refl, (refl, IsUtf8-are_ascii _ refl, (refl, omega (arith, fits.created), (refl, omega (arith, fits.embargo), (refl, hn, (refl, formed.identity, (refl, hm, (refl, name_text provider by, (refl, w.publication, (refl, word_text _ (status_is i.status), (refl, story_sound 3 i.story fits.story formed.story, tt)))))))))))
ingest_sounds true false false n m r provider i hn hm w by fits formed =
    (refl, (refl, IsUtf8-are_ascii _ refl, (refl, omega (arith, fits.created), (refl, omega (arith, fits.embargo), (refl, hn, (refl, formed.identity, (refl, hm, (refl, name_text provider by, (refl, w.publication, (refl, w.release, (refl, word_text _ (status_is i.status), (refl, story_sound 3 i.story fits.story formed.story, tt))))))))))))
ingest_sounds false true true n m r provider i hn hm w by fits formed =
    (refl, (refl, IsUtf8-are_ascii _ refl, (refl, omega (arith, fits.created), (refl, omega (arith, fits.embargo), (refl, hn, (refl, formed.identity, (refl, w.item, (refl, hm, (refl, name_text provider by, (refl, word_text _ (status_is i.status), (refl, story_sound 3 i.story fits.story formed.story, tt)))))))))))
ingest_sounds false true false n m r provider i hn hm w by fits formed =
    (refl, (refl, IsUtf8-are_ascii _ refl, (refl, omega (arith, fits.created), (refl, omega (arith, fits.embargo), (refl, hn, (refl, formed.identity, (refl, w.item, (refl, hm, (refl, name_text provider by, (refl, word_text _ (status_is i.status), (refl, story_sound 3 i.story fits.story formed.story, tt)))))))))))
ingest_sounds false false true n m r provider i hn hm w by fits formed =
    (refl, (refl, IsUtf8-are_ascii _ refl, (refl, omega (arith, fits.created), (refl, omega (arith, fits.embargo), (refl, hn, (refl, formed.identity, (refl, w.item, (refl, hm, (refl, name_text provider by, (refl, w.publication, (refl, word_text _ (status_is i.status), (refl, story_sound 3 i.story fits.story formed.story, tt))))))))))))
ingest_sounds false false false n m r provider i hn hm w by fits formed =
    (refl, (refl, IsUtf8-are_ascii _ refl, (refl, omega (arith, fits.created), (refl, omega (arith, fits.embargo), (refl, hn, (refl, formed.identity, (refl, w.item, (refl, hm, (refl, name_text provider by, (refl, w.publication, (refl, w.release, (refl, word_text _ (status_is i.status), (refl, story_sound 3 i.story fits.story formed.story, tt)))))))))))))

-- ---- acts

act_heard : (n m : ℕ) (r : Reply) (act : Act) → FitsAct act → IsFormedAct act → entry_of (as_line n m (act_members act r)) ≡ Some (record { moment = m; act = act })
unfolding act_members ingest_members replied released number_unless_zero
act_heard n m r Advance fits formed = refl
act_heard n m r (Attempt subscriber k) fits formed = refl
act_heard n m r (Receipt subscriber k) fits formed = refl
act_heard n m r Halt fits formed = refl
act_heard n m r (Ingest provider i) fits formed = ingest_heard (r.item == 0) (r.publication == 0) (r.release == 0) n m r provider i fits
act_heard n m r (Request caller k command) fits formed = request_heard (r.item == 0) (r.publication == 0) (r.release == 0) n m r caller k command formed.0 formed.1 fits formed.2

act_sounds : (n m : ℕ) (r : Reply) (act : Act) → n < 2 ^ 64 → m < 2 ^ 64 → IsWholeReply r → FitsAct act → IsFormedAct act → IsSound 5 (as_line n m (act_members act r))
unfolding act_members ingest_members replied released number_unless_zero
act_sounds n m r Advance hn hm w fits formed = (refl, (refl, IsUtf8-are_ascii _ refl, (refl, hn, (refl, hm, tt))))
act_sounds n m r (Attempt subscriber k) hn hm w fits formed = (refl, (refl, IsUtf8-are_ascii _ refl, (refl, hn, (refl, omega (arith, formed.1), (refl, hm, (refl, name_text subscriber formed.0, tt))))))
act_sounds n m r (Receipt subscriber k) hn hm w fits formed = (refl, (refl, IsUtf8-are_ascii _ refl, (refl, hn, (refl, hm, (refl, omega (arith, formed.1), (refl, name_text subscriber formed.0, tt))))))
act_sounds n m r Halt hn hm w fits formed = (refl, (refl, IsUtf8-are_ascii _ refl, (refl, hn, (refl, hm, tt))))
act_sounds n m r (Ingest provider i) hn hm w fits formed = ingest_sounds (r.item == 0) (r.publication == 0) (r.release == 0) n m r provider i hn hm w formed.0 fits formed.1
act_sounds n m r (Request caller k command) hn hm w fits formed = request_sounds (r.item == 0) (r.publication == 0) (r.release == 0) n m r caller k command hn hm w formed.0 formed.1 fits formed.2

pub entry_heard : (n : ℕ) (e : Entry) (r : Reply) → IsEntry e → entry_of (json.object (entry_members n e r)) ≡ Some e
entry_heard n e r is = act_heard n e.moment r e.act is.fits.act is.formed

pub entry_sounds : (n : ℕ) (e : Entry) (r : Reply) → n < 2 ^ 64 → IsWholeReply r → IsEntry e → IsSound 5 (json.object (entry_members n e r))
entry_sounds n e r few w is = let now : e.moment < 2 ^ 64 = omega (arith, is.fits.moment) in act_sounds n e.moment r e.act few now w is.fits.act is.formed
