-- What replies to record lines say.
use Rattle.std.proofs.Common.{◌≡◌, ◌≤◌, ℕ, List, [], ◌∷◌, ◌++◌, length, refl, sym, ◌∙◌, ap, arith, append_assoc}
use Rattle.std.proofs.lemmas.List.{append-nil, length-append}
use Rattle.news_types.specs.Names.{Bytes}
use Rattle.news_types.specs.Calls.{IsKept}
use Rattle.news_types.specs.Doubt.{payloads}
use Rattle.news_types.specs.Members.{Each}
use Rattle.news_types.specs.Server.{Server}
use Rattle.news_room.proofs.Lists.{counted}
use Rattle.entry_codec.specs.Spelling.{entry_bytes}
use Rattle.record_lines.specs.Spelling.{Numbered}
use Rattle.standby_laws.specs.Standby.{SentRecord, Reaction, Known, Ahead, Next, reaction, reacted, taken}
use Rattle.standby_files.specs.Answers.{kept_by, behind, behind_all, reply_to, replies}
use Rattle.standby_files.specs.Laws.{counts, kept_lines, RepliesAreHeld, line_of}

kept_more : (t : Reaction) (held : List Bytes) (payload : Bytes) → (more : List Bytes) × (kept_by t held payload ≡ held ++ more)
kept_more Next held payload = (payload ∷ [], refl)
kept_more Known held payload = ([], sym (append-nil held))
kept_more Ahead held payload = ([], sym (append-nil held))

behind_more : (held : List Bytes) (r : Numbered) → (more : List Bytes) × (behind held r ≡ held ++ more)
unfolding behind
behind_more held r = kept_more (reaction (length held) r.number) held r.payload

all_more : (held : List Bytes) (records : List Numbered) → (more : List Bytes) × (behind_all held records ≡ held ++ more)
all_more held [] = ([], sym (append-nil held))
all_more held (r ∷ records) =
    let first = behind_more held r in
    let rest = all_more (behind held r) records in
    (first.0 ++ rest.0, rest.1 ∙ ap (λ (l : List Bytes). l ++ rest.0) first.1 ∙ append_assoc held first.0 rest.0)

said : (held : List Bytes) (records : List Numbered) → replies held records ≡ kept_lines (counts held records)
said held [] = refl
said held (r ∷ records) = ap (λ (l : Bytes). reply_to held r ++ l) (said (behind held r) records)

all_held : (held : List Bytes) (records : List Numbered) → Each (λ c. c ≤ length (behind_all held records)) (counts held records)
all_held held [] = tt
all_held held (r ∷ records) =
    let rest = all_more (behind held r) records in
    (omega (arith, ap length rest.1, length-append (behind held r) rest.0), all_held (behind held r) records)

pub replies_held : (held : List Bytes) (records : List Numbered) → RepliesAreHeld held records
replies_held held records = record { said = said held records; all = all_held held records; more = all_more held records }

sent_by : (s : Server) (r : SentRecord) (t : Reaction) → kept_by t (payloads entry_bytes s.list) (entry_bytes r.entry) ≡ payloads entry_bytes (reacted s r.entry IsKept t).list
sent_by s r Next = refl
sent_by s r Known = refl
sent_by s r Ahead = refl

pub sent_taken : (s : Server) (r : SentRecord) → behind (payloads entry_bytes s.list) (line_of r) ≡ payloads entry_bytes (taken s r IsKept).list
unfolding behind
sent_taken s r =
    ap (λ (n : ℕ). kept_by (reaction n r.number) (payloads entry_bytes s.list) (entry_bytes r.entry)) (counted s.list) ∙ sent_by s r (reaction (length s.list) r.number)
