-- The audit's lines are told apart, and each is heard again.
use Rattle.std.specs.Prelude.{◌≡◌, ◌+◌, ◌-◌, ◌^◌, ◌<◌, nat_le, ◌==◌, Bool, true, false, not, List, [], ◌∷◌, ◌++◌, length, cond, if◌then◌else◌, Option, Some, None, option_and_then}
use Rattle.std.proofs.Common.{refl, sym, ap, ◌∙◌, arith, le-leb, append_assoc, append-nil}
use Rattle.std.proofs.lemmas.Bool.{and_parts}
use Rattle.serde_json.specs.Data as json
use Rattle.serde_json.specs.Read.{read}
use Rattle.news_types.specs.declared.entry.Entry.{Entry}
use Rattle.news_types.specs.Names.{Bytes}
use Rattle.news_types.specs.History.{History}
use Rattle.news_types.specs.Outcome.{reply_to}
use Rattle.told_entries.specs.Entries.{entry_members, entry_line, line_behind, audit, IsList}
use Rattle.told_entries.proofs.Sound.{read_back}
use Rattle.told_entries.proofs.Feeds.{one_line, text_line}
use Rattle.told_entries.proofs.Replies.{reply_whole}
use Rattle.told_entries.proofs.Heard.{entry_of, entry_heard, entry_sounds}

-- ---- the lines of a text, each with its end

abbrev lines_from : Bytes → Bytes → List Bytes
lines_from line [] = []
lines_from line (x ∷ xs) = if x == 10 then line ∷ lines_from [] xs else lines_from (line ++ x ∷ []) xs

ended : (line : Bytes) (xs rest : Bytes) → one_line xs ≡ true → lines_from line (xs ++ 10 ∷ rest) ≡ (line ++ xs) ∷ lines_from [] rest
ended line [] rest h = ap (λ l. l ∷ lines_from [] rest) (sym (append-nil line))
ended line (x ∷ xs) rest h =
    let p = and_parts (not (x == 10)) (one_line xs) h in
    goes_on (x == 10) p.0 (lines_from (line ++ x ∷ []) (xs ++ 10 ∷ rest)) (ended (line ++ x ∷ []) xs rest p.1 ∙ ap (λ l. l ∷ lines_from [] rest) (append_assoc line (x ∷ []) xs))
  where
    goes_on : (b : Bool) → not b ≡ true → (other : List Bytes) → other ≡ (line ++ (x ∷ xs)) ∷ lines_from [] rest
        → cond b (line ∷ lines_from [] (xs ++ 10 ∷ rest)) other ≡ (line ++ (x ∷ xs)) ∷ lines_from [] rest
    goes_on true h other is = absurd cc
    goes_on false h other is = is

-- ---- the lines of a list, newest first

abbrev line_of : Entry → History → Bytes
line_of e h = entry_line (length h + 1) e (reply_to h e.moment e.act)

abbrev lines_of : History → List Bytes
lines_of [] = []
lines_of (e ∷ h) = line_of e h ∷ lines_of h

-- the other way round, before these
abbrev turned : List Bytes → List Bytes → List Bytes
turned [] later = later
turned (l ∷ ls) later = turned ls (l ∷ later)

sound_line : (e : Entry) (h : History) → IsList (e ∷ h) → (one_line (line_of e h) ≡ true) × (read (line_of e h) ≡ Some (json.object (entry_members (length h + 1) e (reply_to h e.moment e.act))))
sound_line e h is =
    let few : length h < 2 ^ 64 - 1 = omega (arith, is.1) in
    let number : length h + 1 < 2 ^ 64 = omega (arith, is.1) in
    let sound = entry_sounds (length h + 1) e (reply_to h e.moment e.act) number (reply_whole h e few is.0.0) is.0.0 in
    let d = json.object (entry_members (length h + 1) e (reply_to h e.moment e.act)) in
    (text_line 5 d sound, read_back 5 d sound (omega arith))

before : (e : Entry) (h : History) → IsList (e ∷ h) → IsList h
before e h is = (is.0.1, omega (arith, is.1))

audit_lines : (h : History) (rest : Bytes) → IsList h → lines_from [] (audit 0 h ++ rest) ≡ turned (lines_of h) (lines_from [] rest)
audit_lines [] rest is = refl
audit_lines (e ∷ h) rest is =
    let all : nat_le 0 (length h) ≡ true = le-leb 0 (length h) (omega arith) in
    let line = line_of e h in
    ap (λ b. lines_from [] ((audit 0 h ++ cond b (line_behind h e) []) ++ rest)) all
    ∙ ap (lines_from []) (append_assoc (audit 0 h) (line_behind h e) rest ∙ ap (λ l. audit 0 h ++ l) (append_assoc line (10 ∷ []) rest))
    ∙ audit_lines h (line ++ 10 ∷ rest) (before e h is)
    ∙ ap (turned (lines_of h)) (ended [] line rest (sound_line e h is).0)

-- ---- what is heard

abbrev with_heard : Option Entry → History → History
with_heard None h = h
with_heard (Some e) h = e ∷ h

abbrev heard : List Bytes → History → History
heard [] h = h
heard (l ∷ ls) h = heard ls (with_heard (option_and_then entry_of (read l)) h)

heard_lines : (h : History) (later : List Bytes) → IsList h → heard (turned (lines_of h) later) [] ≡ heard later h
heard_lines [] later is = refl
heard_lines (e ∷ h) later is =
    heard_lines h (line_of e h ∷ later) (before e h is)
    ∙ ap (λ o. heard later (with_heard (option_and_then entry_of o) h)) (sound_line e h is).1
    ∙ ap (λ o. heard later (with_heard o h)) (entry_heard (length h + 1) e (reply_to h e.moment e.act) is.0.0)

whole_heard : (h : History) → IsList h → heard (lines_from [] (audit 0 h)) [] ≡ h
whole_heard h is =
    ap (λ bytes. heard (lines_from [] bytes) []) (sym (append-nil (audit 0 h))) ∙ ap (λ ls. heard ls []) (audit_lines h [] is) ∙ heard_lines h [] is

pub one_list : (g h : History) → IsList g → IsList h → audit 0 g ≡ audit 0 h → g ≡ h
one_list g h is_g is_h same = sym (whole_heard g is_g) ∙ ap (λ bytes. heard (lines_from [] bytes) []) same ∙ whole_heard h is_h
