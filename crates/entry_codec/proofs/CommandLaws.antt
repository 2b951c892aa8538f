-- The laws of commands.
use Rattle.std.proofs.Common.{◌≡◌, ◌==◌, ℕ, zero, suc, ◌≤◌, ◌^◌, List, [], ◌∷◌, ◌++◌, Option, Some, None, Result, Ok, refl, sym, ap, ◌∙◌, subst, arith, inl, inr, Bool, true, false, cond}
use Rattle.std.specs.Int.{w32}
use Rattle.std.specs.Prelude.{nat_lt}
use Rattle.std.proofs.lemmas.Bool.Decides.{nat_tests}
use Rattle.std.proofs.lemmas.Bool.{cases_eq}
use Rattle.news_types.specs.declared.words.Field.{Field}
use Rattle.news_types.specs.declared.words.Op.{Op}
use Rattle.news_types.specs.declared.words.How.{How}
use Rattle.news_types.specs.declared.words.Format.{Format as FeedFormat}
use Rattle.news_types.specs.declared.words.Privileges.{Privileges}
use Rattle.news_types.specs.declared.story.Story.{Story}
use Rattle.news_types.specs.declared.rules.Statement.{Statement}
use Rattle.news_types.specs.declared.rules.Rule.{Rule}
use Rattle.news_types.specs.declared.command.Command.{Command}
use Rattle.news_types.specs.declared.command.Command.TheVariants.{AddUser, SetUser, AddDesk, AddStage, SetMember, AddCondition, AddFilter, SetFilter, SetBlock, AddProduct, SetProduct, AddSubscriber, SetSubscriber, Resume, AddScheme, AddProvider, Create, Flash, Lock, Unlock, BreakLock, Edit, MoveTo, Spike, Unspike, Fetch, Publish, Correct, Kill, Recall, Deschedule, Stop}
use Rattle.byte_formats.specs.Spelling.{IsText, IsList, byte, u32, name as name_bytes, list as list_bytes, is_empty}
use Rattle.byte_formats.specs.Except.{from_one}
use Rattle.byte_formats.proofs.Except.{from_one_lawful}
use Rattle.byte_formats.proofs.Numbers.{wide32, upto_lawful}
use Rattle.byte_formats.specs.Format.{◌>>=◌, chain, nothing, ranged, upto}
use Rattle.byte_formats.specs.Fields.{text, list}
use Rattle.byte_formats.proofs.Laws.{Lawful, chain_lawful, via, remake}
use Rattle.byte_formats.proofs.Fields.{nothing_lawful, ranged_lawful}
use Rattle.byte_formats.proofs.Texts.{text_lawful}
use Rattle.byte_formats.proofs.Options.{list_lawful}
use Rattle.entry_codec.specs.Spelling as spelled
use Rattle.entry_codec.specs.Spelling.{format_number, by_credit, by_lag, with_lag, without_tag}
use Rattle.news_types.specs.Fits.{FitsStory}
use Rattle.news_types.specs.FitsCommands.{FitsCommand}
use Rattle.entry_codec.specs.Formed.{IsFormedCommand, IsFormedStory}
use Rattle.entry_codec.specs.Reading.{privileges, field, op, how, feed_format, statement, rule}
use Rattle.entry_codec.specs.Commands.{command, command_at, command_fields, command_tag, one_of, desk_command_at, feed_command_at, draft_command_at, release_command_at, newer_command_at}
use Rattle.entry_codec.proofs.WordLaws.{Any, TenBits, read_again, privileges_lawful, field_lawful, op_lawful, how_lawful, feed_format_lawful}
use Rattle.entry_codec.proofs.RecordLaws.{Kept, kept, both, maybe, a_name, a_flag, a_text, a_number, a_moment, some_names, IsPlain, IsCredited, plain_told, credited_told, plain_or, IsStatement, statement_lawful, IsRule, rule_lawful}

pub record IsCommand (c : Command) : Type 0 where
  pub fits : FitsCommand c
  pub formed : IsFormedCommand c

-- a command with this tag
pub record OfTag (t : ℕ) (c : Command) : Type 0 where
  pub tag : command_tag c ≡ t
  pub is : IsCommand c

-- ---- the fields behind a tag

abbrev some_values : Kept (List (List ℕ))
some_values = kept (list 64 (text 500)) (IsList 64 (IsText 500)) (list_lawful 64 (text 500) (IsText 500) (omega arith) (text_lawful 500 (omega arith)))

abbrev some_statements : Kept (List Statement)
some_statements = kept (list 16 statement) (IsList 16 IsStatement) (list_lawful 16 statement IsStatement (omega arith) statement_lawful)

abbrev some_rules : Kept (List Rule)
some_rules = kept (list 64 rule) (IsList 64 IsRule) (list_lawful 64 rule IsRule (omega arith) rule_lawful)

abbrev user_kept : Kept (List ℕ × Privileges)
user_kept = both a_name (kept privileges TenBits privileges_lawful)

abbrev two_names_kept : Kept (List ℕ × List ℕ)
two_names_kept = both a_name a_name

abbrev member_kept : Kept (List ℕ × (List ℕ × Bool))
member_kept = both a_name (both a_name a_flag)

abbrev condition_kept : Kept (List ℕ × (Field × (Op × List (List ℕ))))
condition_kept = both a_name (both (kept field Any field_lawful) (both (kept op Any op_lawful) some_values))

abbrev filter_kept : Kept (List ℕ × List Statement)
filter_kept = both a_name some_statements

abbrev block_kept : Kept (List ℕ × Bool)
block_kept = both a_name a_flag

abbrev product_kept : Kept (List ℕ × (How × Option (List ℕ)))
product_kept = both a_name (both (kept how Any how_lawful) (maybe a_name))

abbrev new_subscriber_kept : Kept (List ℕ × (FeedFormat × List (List ℕ)))
new_subscriber_kept = both a_name (both (kept feed_format Any feed_format_lawful) (some_names 64 (omega arith)))

abbrev subscriber_kept : Kept (List ℕ × (Bool × (List (List ℕ) × List (List ℕ))))
subscriber_kept = both a_name (both a_flag (both (some_names 64 (omega arith)) (some_names 64 (omega arith))))

abbrev late_subscriber_kept : Kept (List ℕ × (FeedFormat × (List (List ℕ) × ℕ)))
late_subscriber_kept =
    both a_name (both (kept feed_format Any feed_format_lawful) (both (some_names 64 (omega arith)) (kept (from_one w32 604800) (λ n. (1 ≤ n) × (n ≤ 604800)) (from_one_lawful 604800 (omega arith) (omega arith)))))

abbrev lagged_subscriber_kept : Kept (List ℕ × (Bool × (List (List ℕ) × (List (List ℕ) × ℕ))))
lagged_subscriber_kept =
    both a_name (both a_flag (both (some_names 64 (omega arith)) (both (some_names 64 (omega arith)) (kept (upto w32 604800) (λ n. n ≤ 604800) (upto_lawful w32 (2 ^ 32) 604800 wide32 (omega arith))))))

abbrev rules_of_kept : Kept (List ℕ × List Rule)
rules_of_kept = both a_name some_rules

abbrev provider_kept : Kept (List ℕ × Option (List ℕ))
provider_kept = both a_name (maybe a_name)

abbrev draft_kept : Kept Story → Kept (List ℕ × Story)
draft_kept told = both a_name told

abbrev flashed_kept : Kept Story → Kept (Story × List (List ℕ))
flashed_kept told = both told (some_names 256 (omega arith))

abbrev named_item_kept : Kept (ℕ × List ℕ)
named_item_kept = both a_number a_name

abbrev edited_kept : Kept Story → Kept (ℕ × (List ℕ × Story))
edited_kept told = both a_number (both a_name told)

abbrev moved_kept : Kept (ℕ × (List ℕ × List ℕ))
moved_kept = both a_number (both a_name a_name)

abbrev published_kept : Kept (ℕ × (List ℕ × (Option ℕ × (Option ℕ × List (List ℕ)))))
published_kept = both a_number (both a_name (both (maybe a_moment) (both (maybe a_moment) (some_names 256 (omega arith)))))

abbrev withdrawn_kept : Kept (ℕ × (List ℕ × List ℕ))
withdrawn_kept = both a_number (both a_name (a_text 524288 (omega arith)))

empty : Lawful {A = ℕ} (nothing 0) (λ x. x ≡ 0)
empty = nothing_lawful 0

abbrev made_of : {A B : Type 0} → (A → B) → A × List ℕ → Result (B × List ℕ) ℕ
made_of make x = Ok (make x.0, x.1)

again_as : {A : Type 0} (k : Kept A) (make : A → Command) (a : A) (rest : List ℕ) → k.holds a → (k.format.read (k.format.spell a ++ rest) >>= made_of make) ≡ Ok (make a, rest)
again_as k make a rest p = ap (λ r. r >>= made_of make) (k.law.again a rest p)

-- a command is read again by the fields of its tag
abbrev Again : ℕ → Command → List ℕ → Type 0
Again t c rest = (command_fields t).read ((command_fields t).spell c ++ rest) ≡ Ok (c, rest)

tag_is : (t k : ℕ) (c : Command) (rest : List ℕ) → t ≡ k → Again k c rest → Again t c rest
tag_is t k c rest is again = subst (λ n. Again n c rest) (sym is) again

pub credit_none : (copyright : List ℕ) (a b : ℕ) → copyright ≡ [] → by_credit copyright a b ≡ a
credit_none copyright a b none = ap (λ c. by_credit c a b) none

pub credit_some : (copyright : List ℕ) (a b : ℕ) → is_empty copyright ≡ false → by_credit copyright a b ≡ b
credit_some copyright a b some = rw some refl

lag_some : (lag a b : ℕ) → 1 ≤ lag → by_lag lag a b ≡ b
lag_some lag a b le = let other : (lag == 0) ≡ false = grind (arith, nat_tests) in rw other refl

told_plain : (s : Story) → FitsStory s → IsFormedStory s → s.copyright ≡ [] → IsPlain s
told_plain s fits formed none = record { is = record { fits = fits; formed = formed }; none = none }

told_credited : (s : Story) → FitsStory s → IsFormedStory s → is_empty s.copyright ≡ false → IsCredited s
told_credited s fits formed some = record { is = record { fits = fits; formed = formed }; some = some }

told_again_create : (desk : List ℕ) (told : Story) (rest : List ℕ) → IsCommand (Create desk told) → Again (command_tag (Create desk told)) (Create desk told) rest
unfolding draft_command_at newer_command_at
told_again_create desk told rest h = elim (plain_or told.copyright) [
  | inl none ↦ tag_is _ 17 (Create desk told) rest (credit_none told.copyright 17 33 none)
      (again_as (draft_kept plain_told) (λ p. Create p.0 p.1) (desk, told) rest (h.formed.0, told_plain told h.fits h.formed.1 none))
  | inr some ↦ tag_is _ 33 (Create desk told) rest (credit_some told.copyright 17 33 some)
      (again_as (draft_kept credited_told) (λ p. Create p.0 p.1) (desk, told) rest (h.formed.0, told_credited told h.fits h.formed.1 some))
]

told_again_flash : (told : Story) (targets : List (List ℕ)) (rest : List ℕ) → IsCommand (Flash told targets) → Again (command_tag (Flash told targets)) (Flash told targets) rest
unfolding draft_command_at newer_command_at
told_again_flash told targets rest h = elim (plain_or told.copyright) [
  | inl none ↦ tag_is _ 18 (Flash told targets) rest (credit_none told.copyright 18 34 none)
      (again_as (flashed_kept plain_told) (λ p. Flash p.0 p.1) (told, targets) rest (told_plain told h.fits.0 h.formed.0 none, (h.fits.1, h.formed.1)))
  | inr some ↦ tag_is _ 34 (Flash told targets) rest (credit_some told.copyright 18 34 some)
      (again_as (flashed_kept credited_told) (λ p. Flash p.0 p.1) (told, targets) rest (told_credited told h.fits.0 h.formed.0 some, (h.fits.1, h.formed.1)))
]

told_again_edit : (item : ℕ) (session : List ℕ) (told : Story) (rest : List ℕ) → IsCommand (Edit item session told) → Again (command_tag (Edit item session told)) (Edit item session told) rest
unfolding draft_command_at newer_command_at
told_again_edit item session told rest h = elim (plain_or told.copyright) [
  | inl none ↦ tag_is _ 22 (Edit item session told) rest (credit_none told.copyright 22 35 none)
      (again_as (edited_kept plain_told) (λ p. Edit p.0 p.1.0 p.1.1) (item, (session, told)) rest (h.formed.0, (h.formed.1, told_plain told h.fits h.formed.2 none)))
  | inr some ↦ tag_is _ 35 (Edit item session told) rest (credit_some told.copyright 22 35 some)
      (again_as (edited_kept credited_told) (λ p. Edit p.0 p.1.0 p.1.1) (item, (session, told)) rest (h.formed.0, (h.formed.1, told_credited told h.fits h.formed.2 some)))
]

told_again_correct : (item : ℕ) (session : List ℕ) (told : Story) (rest : List ℕ) → IsCommand (Correct item session told) → Again (command_tag (Correct item session told)) (Correct item session told) rest
unfolding release_command_at newer_command_at
told_again_correct item session told rest h = elim (plain_or told.copyright) [
  | inl none ↦ tag_is _ 28 (Correct item session told) rest (credit_none told.copyright 28 36 none)
      (again_as (edited_kept plain_told) (λ p. Correct p.0 p.1.0 p.1.1) (item, (session, told)) rest (h.formed.0, (h.formed.1, told_plain told h.fits h.formed.2 none)))
  | inr some ↦ tag_is _ 36 (Correct item session told) rest (credit_some told.copyright 28 36 some)
      (again_as (edited_kept credited_told) (λ p. Correct p.0 p.1.0 p.1.1) (item, (session, told)) rest (h.formed.0, (h.formed.1, told_credited told h.fits h.formed.2 some)))
]

late_spelled : (fields : List ℕ) (lag : ℕ) → 1 ≤ lag → with_lag fields lag ≡ fields ++ u32 lag
late_spelled fields lag le = let other : (lag == 0) ≡ false = grind (arith, nat_tests) in rw other refl

late_again : (subscriber : List ℕ) (form : FeedFormat) (products : List (List ℕ)) (lag : ℕ) (rest : List ℕ) → 1 ≤ lag → IsCommand (AddSubscriber subscriber form products lag) → Again 37 (AddSubscriber subscriber form products lag) rest
unfolding newer_command_at
late_again subscriber form products lag rest le h =
    ap (λ l. (command_fields 37).read ((name_bytes subscriber ++ (byte (format_number form) ++ l)) ++ rest)) (late_spelled (list_bytes name_bytes products) lag le)
    ∙ again_as late_subscriber_kept (λ p. AddSubscriber p.0 p.1.0 p.1.1.0 p.1.1.1) (subscriber, (form, (products, lag))) rest (h.formed.0, (tt, ((h.fits.0, h.formed.1), (le, h.fits.1))))

new_again : (subscriber : List ℕ) (form : FeedFormat) (products : List (List ℕ)) (lag : ℕ) (rest : List ℕ) → IsCommand (AddSubscriber subscriber form products lag)
    → Again (command_tag (AddSubscriber subscriber form products lag)) (AddSubscriber subscriber form products lag) rest
unfolding feed_command_at
new_again subscriber form products zero rest h = again_as new_subscriber_kept (λ p. AddSubscriber p.0 p.1.0 p.1.1 0) (subscriber, (form, products)) rest (h.formed.0, (tt, (h.fits.0, h.formed.1)))
new_again subscriber form products (suc lag) rest h =
    tag_is _ 37 (AddSubscriber subscriber form products (suc lag)) rest (lag_some (suc lag) 12 37 (omega arith)) (late_again subscriber form products (suc lag) rest (omega arith) h)

command_again : (c : Command) (rest : List ℕ) → IsCommand c → (command_fields (command_tag c)).read ((command_fields (command_tag c)).spell c ++ rest) ≡ Ok (c, rest)
unfolding desk_command_at feed_command_at draft_command_at release_command_at newer_command_at
command_again (AddUser user set) rest h = again_as user_kept (λ p. AddUser p.0 p.1) (user, set) rest (h.formed, h.fits)
command_again (SetUser user set) rest h = again_as user_kept (λ p. SetUser p.0 p.1) (user, set) rest (h.formed, h.fits)
command_again (AddDesk desk) rest h = again_as a_name (λ p. AddDesk p) desk rest h.formed
command_again (AddStage desk stage) rest h = again_as two_names_kept (λ p. AddStage p.0 p.1) (desk, stage) rest (h.formed.0, h.formed.1)
command_again (SetMember desk user member) rest h = again_as member_kept (λ p. SetMember p.0 p.1.0 p.1.1) (desk, (user, member)) rest (h.formed.0, (h.formed.1, tt))
command_again (AddCondition condition reads compares values) rest h = again_as condition_kept (λ p. AddCondition p.0 p.1.0 p.1.1.0 p.1.1.1) (condition, (reads, (compares, values))) rest (h.formed.0, (tt, (tt, (h.fits.few, λ k d l. (h.fits.short k d l, h.formed.1 k d l)))))
command_again (AddFilter by statements) rest h = again_as filter_kept (λ p. AddFilter p.0 p.1) (by, statements) rest (h.formed.0, (h.fits.few, λ k d l. record { fits = h.fits.each k d l; formed = h.formed.1 k d l }))
command_again (SetFilter by statements) rest h = again_as filter_kept (λ p. SetFilter p.0 p.1) (by, statements) rest (h.formed.0, (h.fits.few, λ k d l. record { fits = h.fits.each k d l; formed = h.formed.1 k d l }))
command_again (SetBlock by on) rest h = again_as block_kept (λ p. SetBlock p.0 p.1) (by, on) rest (h.formed, tt)
command_again (AddProduct product selects by) rest h = again_as product_kept (λ p. AddProduct p.0 p.1.0 p.1.1) (product, (selects, by)) rest (h.formed.0, (tt, h.formed.1))
command_again (SetProduct product selects by) rest h = again_as product_kept (λ p. SetProduct p.0 p.1.0 p.1.1) (product, (selects, by)) rest (h.formed.0, (tt, h.formed.1))
command_again (AddSubscriber subscriber form products lag) rest h = new_again subscriber form products lag rest h
command_again (SetSubscriber subscriber active products off None) rest h =
    again_as subscriber_kept (λ p. SetSubscriber p.0 p.1.0 p.1.1.0 p.1.1.1 None) (subscriber, (active, (products, off))) rest (h.formed.0, (tt, ((h.fits.0, h.formed.1), (h.fits.1, h.formed.2))))
command_again (SetSubscriber subscriber active products off (Some lag)) rest h =
    again_as lagged_subscriber_kept (λ p. SetSubscriber p.0 p.1.0 p.1.1.0 p.1.1.1.0 (Some p.1.1.1.1)) (subscriber, (active, (products, (off, lag)))) rest (h.formed.0, (tt, ((h.fits.0, h.formed.1), ((h.fits.1, h.formed.2), h.fits.2))))
command_again (Resume subscriber) rest h = again_as a_name (λ p. Resume p) subscriber rest h.formed
command_again (AddScheme scheme inside) rest h = again_as rules_of_kept (λ p. AddScheme p.0 p.1) (scheme, inside) rest (h.formed.0, (h.fits.few, λ k d l. record { fits = h.fits.each k d l; formed = h.formed.1 k d l }))
command_again (AddProvider provider scheme) rest h = again_as provider_kept (λ p. AddProvider p.0 p.1) (provider, scheme) rest (h.formed.0, h.formed.1)
command_again (Create desk told) rest h = told_again_create desk told rest h
command_again (Flash told targets) rest h = told_again_flash told targets rest h
command_again (Lock item session) rest h = again_as named_item_kept (λ p. Lock p.0 p.1) (item, session) rest (h.formed.0, h.formed.1)
command_again (Unlock item session) rest h = again_as named_item_kept (λ p. Unlock p.0 p.1) (item, session) rest (h.formed.0, h.formed.1)
command_again (BreakLock item) rest h = again_as a_number (λ p. BreakLock p) item rest h.formed
command_again (Edit item session told) rest h = told_again_edit item session told rest h
command_again (MoveTo item desk stage) rest h = again_as moved_kept (λ p. MoveTo p.0 p.1.0 p.1.1) (item, (desk, stage)) rest (h.formed.0, (h.formed.1, h.formed.2))
command_again (Spike item) rest h = again_as a_number (λ p. Spike p) item rest h.formed
command_again (Unspike item desk) rest h = again_as named_item_kept (λ p. Unspike p.0 p.1) (item, desk) rest (h.formed.0, h.formed.1)
command_again (Fetch item desk) rest h = again_as named_item_kept (λ p. Fetch p.0 p.1) (item, desk) rest (h.formed.0, h.formed.1)
command_again (Publish item session schedule embargo targets) rest h = again_as published_kept (λ p. Publish p.0 p.1.0 p.1.1.0 p.1.1.1.0 p.1.1.1.1) (item, (session, (schedule, (embargo, targets)))) rest (h.formed.0, (h.formed.1, (h.fits.0, (h.fits.1, (h.fits.2, h.formed.2)))))
command_again (Correct item session told) rest h = told_again_correct item session told rest h
command_again (Kill item session note) rest h = again_as withdrawn_kept (λ p. Kill p.0 p.1.0 p.1.1) (item, (session, note)) rest (h.formed.0, (h.formed.1, (h.fits, h.formed.2)))
command_again (Recall item session note) rest h = again_as withdrawn_kept (λ p. Recall p.0 p.1.0 p.1.1) (item, (session, note)) rest (h.formed.0, (h.formed.1, (h.fits, h.formed.2)))
command_again (Deschedule item) rest h = again_as a_number (λ p. Deschedule p) item rest h.formed
command_again Stop rest h = refl

of_again : (t : ℕ) (c : Command) (rest : List ℕ) → OfTag t c → (command_fields t).read ((command_fields t).spell c ++ rest) ≡ Ok (c, rest)
of_again t c rest h = subst (λ k. (command_fields k).read ((command_fields k).spell c ++ rest) ≡ Ok (c, rest)) h.tag (command_again c rest h.is)

of_tag : (t k : ℕ) → t ≡ k → Lawful (command_fields k) (OfTag k) → Lawful (command_fields t) (OfTag t)
of_tag t k e l = subst (λ n. Lawful (command_fields n) (OfTag n)) (sym e) l

law_38 : Lawful (command_fields 38) (OfTag 38)
unfolding newer_command_at
law_38 = remake lagged_subscriber_kept.format lagged_subscriber_kept.holds (command_fields 38) (OfTag 38) (λ p. SetSubscriber p.0 p.1.0 p.1.1.0 p.1.1.1.0 (Some p.1.1.1.1)) lagged_subscriber_kept.law (λ _. refl) (λ p q. (record { tag = refl; is = record { fits = (q.1.1.0.0, q.1.1.1.0.0, q.1.1.1.1); formed = (q.0, q.1.1.0.1, q.1.1.1.0.1) } }, refl)) (of_again 38)

law_37 : Lawful (command_fields 37) (OfTag 37)
unfolding newer_command_at
law_37 =
    remake late_subscriber_kept.format late_subscriber_kept.holds (command_fields 37) (OfTag 37) (λ p. AddSubscriber p.0 p.1.0 p.1.1.0 p.1.1.1) late_subscriber_kept.law (λ _. refl)
    (λ p q. (
      record { tag = lag_some p.1.1.1 12 37 q.1.1.1.0; is = record { fits = (q.1.1.0.0, q.1.1.1.1); formed = (q.0, q.1.1.0.1) } },
      ap (λ l. name_bytes p.0 ++ (byte (format_number p.1.0) ++ l)) (late_spelled (list_bytes name_bytes p.1.1.0) p.1.1.1 q.1.1.1.0),
    )) (of_again 37)

law_36 : Lawful (command_fields 36) (OfTag 36)
unfolding newer_command_at
law_36 = remake (edited_kept credited_told).format (edited_kept credited_told).holds (command_fields 36) (OfTag 36) (λ p. Correct p.0 p.1.0 p.1.1) (edited_kept credited_told).law (λ _. refl) (λ p q. (record { tag = credit_some p.1.1.copyright 28 36 q.1.1.some; is = record { fits = q.1.1.is.fits; formed = (q.0, q.1.0, q.1.1.is.formed) } }, refl)) (of_again 36)

law_35 : Lawful (command_fields 35) (OfTag 35)
unfolding newer_command_at
law_35 = remake (edited_kept credited_told).format (edited_kept credited_told).holds (command_fields 35) (OfTag 35) (λ p. Edit p.0 p.1.0 p.1.1) (edited_kept credited_told).law (λ _. refl) (λ p q. (record { tag = credit_some p.1.1.copyright 22 35 q.1.1.some; is = record { fits = q.1.1.is.fits; formed = (q.0, q.1.0, q.1.1.is.formed) } }, refl)) (of_again 35)

law_34 : Lawful (command_fields 34) (OfTag 34)
unfolding newer_command_at
law_34 = remake (flashed_kept credited_told).format (flashed_kept credited_told).holds (command_fields 34) (OfTag 34) (λ p. Flash p.0 p.1) (flashed_kept credited_told).law (λ _. refl) (λ p q. (record { tag = credit_some p.0.copyright 18 34 q.0.some; is = record { fits = (q.0.is.fits, q.1.0); formed = (q.0.is.formed, q.1.1) } }, refl)) (of_again 34)

law_33 : Lawful (command_fields 33) (OfTag 33)
unfolding newer_command_at
law_33 = remake (draft_kept credited_told).format (draft_kept credited_told).holds (command_fields 33) (OfTag 33) (λ p. Create p.0 p.1) (draft_kept credited_told).law (λ _. refl) (λ p q. (record { tag = credit_some p.1.copyright 17 33 q.1.some; is = record { fits = q.1.is.fits; formed = (q.0, q.1.is.formed) } }, refl)) (of_again 33)

law_32 : Lawful (command_fields 32) (OfTag 32)
unfolding release_command_at
law_32 = remake {A = ℕ} (nothing 0) (λ x. x ≡ 0) (command_fields 32) (OfTag 32) (λ p. Stop) empty (λ _. refl) (λ p q. (record { tag = refl; is = record { fits = tt; formed = tt } }, refl)) (of_again 32)

law_31 : Lawful (command_fields 31) (OfTag 31)
unfolding release_command_at
law_31 = remake a_number.format a_number.holds (command_fields 31) (OfTag 31) (λ p. Deschedule p) a_number.law (λ _. refl) (λ p q. (record { tag = refl; is = record { fits = tt; formed = q } }, refl)) (of_again 31)

law_30 : Lawful (command_fields 30) (OfTag 30)
unfolding release_command_at
law_30 = remake withdrawn_kept.format withdrawn_kept.holds (command_fields 30) (OfTag 30) (λ p. Recall p.0 p.1.0 p.1.1) withdrawn_kept.law (λ _. refl) (λ p q. (record { tag = refl; is = record { fits = q.1.1.0; formed = (q.0, q.1.0, q.1.1.1) } }, refl)) (of_again 30)

law_29 : Lawful (command_fields 29) (OfTag 29)
unfolding release_command_at
law_29 = remake withdrawn_kept.format withdrawn_kept.holds (command_fields 29) (OfTag 29) (λ p. Kill p.0 p.1.0 p.1.1) withdrawn_kept.law (λ _. refl) (λ p q. (record { tag = refl; is = record { fits = q.1.1.0; formed = (q.0, q.1.0, q.1.1.1) } }, refl)) (of_again 29)

law_28 : Lawful (command_fields 28) (OfTag 28)
unfolding release_command_at
law_28 = remake (edited_kept plain_told).format (edited_kept plain_told).holds (command_fields 28) (OfTag 28) (λ p. Correct p.0 p.1.0 p.1.1) (edited_kept plain_told).law (λ _. refl) (λ p q. (record { tag = credit_none p.1.1.copyright 28 36 q.1.1.none; is = record { fits = q.1.1.is.fits; formed = (q.0, q.1.0, q.1.1.is.formed) } }, refl)) (of_again 28)

law_27 : Lawful (command_fields 27) (OfTag 27)
unfolding release_command_at
law_27 = remake published_kept.format published_kept.holds (command_fields 27) (OfTag 27) (λ p. Publish p.0 p.1.0 p.1.1.0 p.1.1.1.0 p.1.1.1.1) published_kept.law (λ _. refl) (λ p q. (record { tag = refl; is = record { fits = (q.1.1.0, q.1.1.1.0, q.1.1.1.1.0); formed = (q.0, q.1.0, q.1.1.1.1.1) } }, refl)) (of_again 27)

law_26 : Lawful (command_fields 26) (OfTag 26)
unfolding release_command_at
law_26 = remake named_item_kept.format named_item_kept.holds (command_fields 26) (OfTag 26) (λ p. Fetch p.0 p.1) named_item_kept.law (λ _. refl) (λ p q. (record { tag = refl; is = record { fits = tt; formed = (q.0, q.1) } }, refl)) (of_again 26)

law_25 : Lawful (command_fields 25) (OfTag 25)
unfolding release_command_at
law_25 = remake named_item_kept.format named_item_kept.holds (command_fields 25) (OfTag 25) (λ p. Unspike p.0 p.1) named_item_kept.law (λ _. refl) (λ p q. (record { tag = refl; is = record { fits = tt; formed = (q.0, q.1) } }, refl)) (of_again 25)

law_24 : Lawful (command_fields 24) (OfTag 24)
unfolding draft_command_at
law_24 = remake a_number.format a_number.holds (command_fields 24) (OfTag 24) (λ p. Spike p) a_number.law (λ _. refl) (λ p q. (record { tag = refl; is = record { fits = tt; formed = q } }, refl)) (of_again 24)

law_23 : Lawful (command_fields 23) (OfTag 23)
unfolding draft_command_at
law_23 = remake moved_kept.format moved_kept.holds (command_fields 23) (OfTag 23) (λ p. MoveTo p.0 p.1.0 p.1.1) moved_kept.law (λ _. refl) (λ p q. (record { tag = refl; is = record { fits = tt; formed = (q.0, q.1.0, q.1.1) } }, refl)) (of_again 23)

law_22 : Lawful (command_fields 22) (OfTag 22)
unfolding draft_command_at
law_22 = remake (edited_kept plain_told).format (edited_kept plain_told).holds (command_fields 22) (OfTag 22) (λ p. Edit p.0 p.1.0 p.1.1) (edited_kept plain_told).law (λ _. refl) (λ p q. (record { tag = credit_none p.1.1.copyright 22 35 q.1.1.none; is = record { fits = q.1.1.is.fits; formed = (q.0, q.1.0, q.1.1.is.formed) } }, refl)) (of_again 22)

law_21 : Lawful (command_fields 21) (OfTag 21)
unfolding draft_command_at
law_21 = remake a_number.format a_number.holds (command_fields 21) (OfTag 21) (λ p. BreakLock p) a_number.law (λ _. refl) (λ p q. (record { tag = refl; is = record { fits = tt; formed = q } }, refl)) (of_again 21)

law_20 : Lawful (command_fields 20) (OfTag 20)
unfolding draft_command_at
law_20 = remake named_item_kept.format named_item_kept.holds (command_fields 20) (OfTag 20) (λ p. Unlock p.0 p.1) named_item_kept.law (λ _. refl) (λ p q. (record { tag = refl; is = record { fits = tt; formed = (q.0, q.1) } }, refl)) (of_again 20)

law_19 : Lawful (command_fields 19) (OfTag 19)
unfolding draft_command_at
law_19 = remake named_item_kept.format named_item_kept.holds (command_fields 19) (OfTag 19) (λ p. Lock p.0 p.1) named_item_kept.law (λ _. refl) (λ p q. (record { tag = refl; is = record { fits = tt; formed = (q.0, q.1) } }, refl)) (of_again 19)

law_18 : Lawful (command_fields 18) (OfTag 18)
unfolding draft_command_at
law_18 = remake (flashed_kept plain_told).format (flashed_kept plain_told).holds (command_fields 18) (OfTag 18) (λ p. Flash p.0 p.1) (flashed_kept plain_told).law (λ _. refl) (λ p q. (record { tag = credit_none p.0.copyright 18 34 q.0.none; is = record { fits = (q.0.is.fits, q.1.0); formed = (q.0.is.formed, q.1.1) } }, refl)) (of_again 18)

law_17 : Lawful (command_fields 17) (OfTag 17)
unfolding draft_command_at
law_17 = remake (draft_kept plain_told).format (draft_kept plain_told).holds (command_fields 17) (OfTag 17) (λ p. Create p.0 p.1) (draft_kept plain_told).law (λ _. refl) (λ p q. (record { tag = credit_none p.1.copyright 17 33 q.1.none; is = record { fits = q.1.is.fits; formed = (q.0, q.1.is.formed) } }, refl)) (of_again 17)

law_16 : Lawful (command_fields 16) (OfTag 16)
unfolding feed_command_at
law_16 = remake provider_kept.format provider_kept.holds (command_fields 16) (OfTag 16) (λ p. AddProvider p.0 p.1) provider_kept.law (λ _. refl) (λ p q. (record { tag = refl; is = record { fits = tt; formed = (q.0, q.1) } }, refl)) (of_again 16)

law_15 : Lawful (command_fields 15) (OfTag 15)
unfolding feed_command_at
law_15 = remake rules_of_kept.format rules_of_kept.holds (command_fields 15) (OfTag 15) (λ p. AddScheme p.0 p.1) rules_of_kept.law (λ _. refl) (λ p q. (record { tag = refl; is = record { fits = record { few = q.1.0; each = λ k d l. (q.1.1 k d l).fits }; formed = (q.0, λ k d l. (q.1.1 k d l).formed) } }, refl)) (of_again 15)

law_14 : Lawful (command_fields 14) (OfTag 14)
unfolding feed_command_at
law_14 = remake a_name.format a_name.holds (command_fields 14) (OfTag 14) (λ p. Resume p) a_name.law (λ _. refl) (λ p q. (record { tag = refl; is = record { fits = tt; formed = q } }, refl)) (of_again 14)

law_13 : Lawful (command_fields 13) (OfTag 13)
unfolding feed_command_at
law_13 = remake subscriber_kept.format subscriber_kept.holds (command_fields 13) (OfTag 13) (λ p. SetSubscriber p.0 p.1.0 p.1.1.0 p.1.1.1 None) subscriber_kept.law (λ _. refl) (λ p q. (record { tag = refl; is = record { fits = (q.1.1.0.0, q.1.1.1.0, tt); formed = (q.0, q.1.1.0.1, q.1.1.1.1) } }, refl)) (of_again 13)

law_12 : Lawful (command_fields 12) (OfTag 12)
unfolding feed_command_at
law_12 = remake new_subscriber_kept.format new_subscriber_kept.holds (command_fields 12) (OfTag 12) (λ p. AddSubscriber p.0 p.1.0 p.1.1 0) new_subscriber_kept.law (λ _. refl) (λ p q. (record { tag = refl; is = record { fits = (q.1.1.0, omega arith); formed = (q.0, q.1.1.1) } }, refl)) (of_again 12)

law_11 : Lawful (command_fields 11) (OfTag 11)
unfolding feed_command_at
law_11 = remake product_kept.format product_kept.holds (command_fields 11) (OfTag 11) (λ p. SetProduct p.0 p.1.0 p.1.1) product_kept.law (λ _. refl) (λ p q. (record { tag = refl; is = record { fits = tt; formed = (q.0, q.1.1) } }, refl)) (of_again 11)

law_10 : Lawful (command_fields 10) (OfTag 10)
unfolding feed_command_at
law_10 = remake product_kept.format product_kept.holds (command_fields 10) (OfTag 10) (λ p. AddProduct p.0 p.1.0 p.1.1) product_kept.law (λ _. refl) (λ p q. (record { tag = refl; is = record { fits = tt; formed = (q.0, q.1.1) } }, refl)) (of_again 10)

law_9 : Lawful (command_fields 9) (OfTag 9)
unfolding feed_command_at
law_9 = remake block_kept.format block_kept.holds (command_fields 9) (OfTag 9) (λ p. SetBlock p.0 p.1) block_kept.law (λ _. refl) (λ p q. (record { tag = refl; is = record { fits = tt; formed = q.0 } }, refl)) (of_again 9)

law_8 : Lawful (command_fields 8) (OfTag 8)
unfolding desk_command_at
law_8 = remake filter_kept.format filter_kept.holds (command_fields 8) (OfTag 8) (λ p. SetFilter p.0 p.1) filter_kept.law (λ _. refl) (λ p q. (record { tag = refl; is = record { fits = record { few = q.1.0; each = λ k d l. (q.1.1 k d l).fits }; formed = (q.0, λ k d l. (q.1.1 k d l).formed) } }, refl)) (of_again 8)

law_7 : Lawful (command_fields 7) (OfTag 7)
unfolding desk_command_at
law_7 = remake filter_kept.format filter_kept.holds (command_fields 7) (OfTag 7) (λ p. AddFilter p.0 p.1) filter_kept.law (λ _. refl) (λ p q. (record { tag = refl; is = record { fits = record { few = q.1.0; each = λ k d l. (q.1.1 k d l).fits }; formed = (q.0, λ k d l. (q.1.1 k d l).formed) } }, refl)) (of_again 7)

law_6 : Lawful (command_fields 6) (OfTag 6)
unfolding desk_command_at
law_6 = remake condition_kept.format condition_kept.holds (command_fields 6) (OfTag 6) (λ p. AddCondition p.0 p.1.0 p.1.1.0 p.1.1.1) condition_kept.law (λ _. refl) (λ p q. (record { tag = refl; is = record { fits = record { few = q.1.1.1.0; short = λ k d l. (q.1.1.1.1 k d l).0 }; formed = (q.0, λ k d l. (q.1.1.1.1 k d l).1) } }, refl)) (of_again 6)

law_5 : Lawful (command_fields 5) (OfTag 5)
unfolding desk_command_at
law_5 = remake member_kept.format member_kept.holds (command_fields 5) (OfTag 5) (λ p. SetMember p.0 p.1.0 p.1.1) member_kept.law (λ _. refl) (λ p q. (record { tag = refl; is = record { fits = tt; formed = (q.0, q.1.0) } }, refl)) (of_again 5)

law_4 : Lawful (command_fields 4) (OfTag 4)
unfolding desk_command_at
law_4 = remake two_names_kept.format two_names_kept.holds (command_fields 4) (OfTag 4) (λ p. AddStage p.0 p.1) two_names_kept.law (λ _. refl) (λ p q. (record { tag = refl; is = record { fits = tt; formed = (q.0, q.1) } }, refl)) (of_again 4)

law_3 : Lawful (command_fields 3) (OfTag 3)
unfolding desk_command_at
law_3 = remake a_name.format a_name.holds (command_fields 3) (OfTag 3) (λ p. AddDesk p) a_name.law (λ _. refl) (λ p q. (record { tag = refl; is = record { fits = tt; formed = q } }, refl)) (of_again 3)

law_2 : Lawful (command_fields 2) (OfTag 2)
unfolding desk_command_at
law_2 = remake user_kept.format user_kept.holds (command_fields 2) (OfTag 2) (λ p. SetUser p.0 p.1) user_kept.law (λ _. refl) (λ p q. (record { tag = refl; is = record { fits = q.1; formed = q.0 } }, refl)) (of_again 2)

law_1 : Lawful (command_fields 1) (OfTag 1)
unfolding desk_command_at
law_1 = remake user_kept.format user_kept.holds (command_fields 1) (OfTag 1) (λ p. AddUser p.0 p.1) user_kept.law (λ _. refl) (λ p q. (record { tag = refl; is = record { fits = q.1; formed = q.0 } }, refl)) (of_again 1)

from_38 : (t : ℕ) → 38 ≤ t → t ≤ 38 → Lawful (command_fields t) (OfTag t)
from_38 t lo hi = of_tag t 38 (omega arith) law_38

from_37 : (t : ℕ) → 37 ≤ t → t ≤ 38 → Lawful (command_fields t) (OfTag t)
from_37 t lo hi = elim (cases_eq t 37) [ inl e ↦ of_tag t 37 e law_37 | inr other ↦ from_38 t (omega arith) hi ]

from_36 : (t : ℕ) → 36 ≤ t → t ≤ 38 → Lawful (command_fields t) (OfTag t)
from_36 t lo hi = elim (cases_eq t 36) [ inl e ↦ of_tag t 36 e law_36 | inr other ↦ from_37 t (omega arith) hi ]

from_35 : (t : ℕ) → 35 ≤ t → t ≤ 38 → Lawful (command_fields t) (OfTag t)
from_35 t lo hi = elim (cases_eq t 35) [ inl e ↦ of_tag t 35 e law_35 | inr other ↦ from_36 t (omega arith) hi ]

from_34 : (t : ℕ) → 34 ≤ t → t ≤ 38 → Lawful (command_fields t) (OfTag t)
from_34 t lo hi = elim (cases_eq t 34) [ inl e ↦ of_tag t 34 e law_34 | inr other ↦ from_35 t (omega arith) hi ]

from_33 : (t : ℕ) → 33 ≤ t → t ≤ 38 → Lawful (command_fields t) (OfTag t)
from_33 t lo hi = elim (cases_eq t 33) [ inl e ↦ of_tag t 33 e law_33 | inr other ↦ from_34 t (omega arith) hi ]

from_32 : (t : ℕ) → 32 ≤ t → t ≤ 38 → Lawful (command_fields t) (OfTag t)
from_32 t lo hi = elim (cases_eq t 32) [ inl e ↦ of_tag t 32 e law_32 | inr other ↦ from_33 t (omega arith) hi ]

from_31 : (t : ℕ) → 31 ≤ t → t ≤ 38 → Lawful (command_fields t) (OfTag t)
from_31 t lo hi = elim (cases_eq t 31) [ inl e ↦ of_tag t 31 e law_31 | inr other ↦ from_32 t (omega arith) hi ]

from_30 : (t : ℕ) → 30 ≤ t → t ≤ 38 → Lawful (command_fields t) (OfTag t)
from_30 t lo hi = elim (cases_eq t 30) [ inl e ↦ of_tag t 30 e law_30 | inr other ↦ from_31 t (omega arith) hi ]

from_29 : (t : ℕ) → 29 ≤ t → t ≤ 38 → Lawful (command_fields t) (OfTag t)
from_29 t lo hi = elim (cases_eq t 29) [ inl e ↦ of_tag t 29 e law_29 | inr other ↦ from_30 t (omega arith) hi ]

from_28 : (t : ℕ) → 28 ≤ t → t ≤ 38 → Lawful (command_fields t) (OfTag t)
from_28 t lo hi = elim (cases_eq t 28) [ inl e ↦ of_tag t 28 e law_28 | inr other ↦ from_29 t (omega arith) hi ]

from_27 : (t : ℕ) → 27 ≤ t → t ≤ 38 → Lawful (command_fields t) (OfTag t)
from_27 t lo hi = elim (cases_eq t 27) [ inl e ↦ of_tag t 27 e law_27 | inr other ↦ from_28 t (omega arith) hi ]

from_26 : (t : ℕ) → 26 ≤ t → t ≤ 38 → Lawful (command_fields t) (OfTag t)
from_26 t lo hi = elim (cases_eq t 26) [ inl e ↦ of_tag t 26 e law_26 | inr other ↦ from_27 t (omega arith) hi ]

from_25 : (t : ℕ) → 25 ≤ t → t ≤ 38 → Lawful (command_fields t) (OfTag t)
from_25 t lo hi = elim (cases_eq t 25) [ inl e ↦ of_tag t 25 e law_25 | inr other ↦ from_26 t (omega arith) hi ]

from_24 : (t : ℕ) → 24 ≤ t → t ≤ 38 → Lawful (command_fields t) (OfTag t)
from_24 t lo hi = elim (cases_eq t 24) [ inl e ↦ of_tag t 24 e law_24 | inr other ↦ from_25 t (omega arith) hi ]

from_23 : (t : ℕ) → 23 ≤ t → t ≤ 38 → Lawful (command_fields t) (OfTag t)
from_23 t lo hi = elim (cases_eq t 23) [ inl e ↦ of_tag t 23 e law_23 | inr other ↦ from_24 t (omega arith) hi ]

from_22 : (t : ℕ) → 22 ≤ t → t ≤ 38 → Lawful (command_fields t) (OfTag t)
from_22 t lo hi = elim (cases_eq t 22) [ inl e ↦ of_tag t 22 e law_22 | inr other ↦ from_23 t (omega arith) hi ]

from_21 : (t : ℕ) → 21 ≤ t → t ≤ 38 → Lawful (command_fields t) (OfTag t)
from_21 t lo hi = elim (cases_eq t 21) [ inl e ↦ of_tag t 21 e law_21 | inr other ↦ from_22 t (omega arith) hi ]

from_20 : (t : ℕ) → 20 ≤ t → t ≤ 38 → Lawful (command_fields t) (OfTag t)
from_20 t lo hi = elim (cases_eq t 20) [ inl e ↦ of_tag t 20 e law_20 | inr other ↦ from_21 t (omega arith) hi ]

from_19 : (t : ℕ) → 19 ≤ t → t ≤ 38 → Lawful (command_fields t) (OfTag t)
from_19 t lo hi = elim (cases_eq t 19) [ inl e ↦ of_tag t 19 e law_19 | inr other ↦ from_20 t (omega arith) hi ]

from_18 : (t : ℕ) → 18 ≤ t → t ≤ 38 → Lawful (command_fields t) (OfTag t)
from_18 t lo hi = elim (cases_eq t 18) [ inl e ↦ of_tag t 18 e law_18 | inr other ↦ from_19 t (omega arith) hi ]

from_17 : (t : ℕ) → 17 ≤ t → t ≤ 38 → Lawful (command_fields t) (OfTag t)
from_17 t lo hi = elim (cases_eq t 17) [ inl e ↦ of_tag t 17 e law_17 | inr other ↦ from_18 t (omega arith) hi ]

from_16 : (t : ℕ) → 16 ≤ t → t ≤ 38 → Lawful (command_fields t) (OfTag t)
from_16 t lo hi = elim (cases_eq t 16) [ inl e ↦ of_tag t 16 e law_16 | inr other ↦ from_17 t (omega arith) hi ]

from_15 : (t : ℕ) → 15 ≤ t → t ≤ 38 → Lawful (command_fields t) (OfTag t)
from_15 t lo hi = elim (cases_eq t 15) [ inl e ↦ of_tag t 15 e law_15 | inr other ↦ from_16 t (omega arith) hi ]

from_14 : (t : ℕ) → 14 ≤ t → t ≤ 38 → Lawful (command_fields t) (OfTag t)
from_14 t lo hi = elim (cases_eq t 14) [ inl e ↦ of_tag t 14 e law_14 | inr other ↦ from_15 t (omega arith) hi ]

from_13 : (t : ℕ) → 13 ≤ t → t ≤ 38 → Lawful (command_fields t) (OfTag t)
from_13 t lo hi = elim (cases_eq t 13) [ inl e ↦ of_tag t 13 e law_13 | inr other ↦ from_14 t (omega arith) hi ]

from_12 : (t : ℕ) → 12 ≤ t → t ≤ 38 → Lawful (command_fields t) (OfTag t)
from_12 t lo hi = elim (cases_eq t 12) [ inl e ↦ of_tag t 12 e law_12 | inr other ↦ from_13 t (omega arith) hi ]

from_11 : (t : ℕ) → 11 ≤ t → t ≤ 38 → Lawful (command_fields t) (OfTag t)
from_11 t lo hi = elim (cases_eq t 11) [ inl e ↦ of_tag t 11 e law_11 | inr other ↦ from_12 t (omega arith) hi ]

from_10 : (t : ℕ) → 10 ≤ t → t ≤ 38 → Lawful (command_fields t) (OfTag t)
from_10 t lo hi = elim (cases_eq t 10) [ inl e ↦ of_tag t 10 e law_10 | inr other ↦ from_11 t (omega arith) hi ]

from_9 : (t : ℕ) → 9 ≤ t → t ≤ 38 → Lawful (command_fields t) (OfTag t)
from_9 t lo hi = elim (cases_eq t 9) [ inl e ↦ of_tag t 9 e law_9 | inr other ↦ from_10 t (omega arith) hi ]

from_8 : (t : ℕ) → 8 ≤ t → t ≤ 38 → Lawful (command_fields t) (OfTag t)
from_8 t lo hi = elim (cases_eq t 8) [ inl e ↦ of_tag t 8 e law_8 | inr other ↦ from_9 t (omega arith) hi ]

from_7 : (t : ℕ) → 7 ≤ t → t ≤ 38 → Lawful (command_fields t) (OfTag t)
from_7 t lo hi = elim (cases_eq t 7) [ inl e ↦ of_tag t 7 e law_7 | inr other ↦ from_8 t (omega arith) hi ]

from_6 : (t : ℕ) → 6 ≤ t → t ≤ 38 → Lawful (command_fields t) (OfTag t)
from_6 t lo hi = elim (cases_eq t 6) [ inl e ↦ of_tag t 6 e law_6 | inr other ↦ from_7 t (omega arith) hi ]

from_5 : (t : ℕ) → 5 ≤ t → t ≤ 38 → Lawful (command_fields t) (OfTag t)
from_5 t lo hi = elim (cases_eq t 5) [ inl e ↦ of_tag t 5 e law_5 | inr other ↦ from_6 t (omega arith) hi ]

from_4 : (t : ℕ) → 4 ≤ t → t ≤ 38 → Lawful (command_fields t) (OfTag t)
from_4 t lo hi = elim (cases_eq t 4) [ inl e ↦ of_tag t 4 e law_4 | inr other ↦ from_5 t (omega arith) hi ]

from_3 : (t : ℕ) → 3 ≤ t → t ≤ 38 → Lawful (command_fields t) (OfTag t)
from_3 t lo hi = elim (cases_eq t 3) [ inl e ↦ of_tag t 3 e law_3 | inr other ↦ from_4 t (omega arith) hi ]

from_2 : (t : ℕ) → 2 ≤ t → t ≤ 38 → Lawful (command_fields t) (OfTag t)
from_2 t lo hi = elim (cases_eq t 2) [ inl e ↦ of_tag t 2 e law_2 | inr other ↦ from_3 t (omega arith) hi ]

from_1 : (t : ℕ) → 1 ≤ t → t ≤ 38 → Lawful (command_fields t) (OfTag t)
from_1 t lo hi = elim (cases_eq t 1) [ inl e ↦ of_tag t 1 e law_1 | inr other ↦ from_2 t (omega arith) hi ]

abbrev Tagged : Command → Type 0
Tagged c = ((1 ≤ command_tag c) × (command_tag c ≤ 38)) × (spelled.command c ≡ (chain (ranged 1 38) command_fields command_tag).spell c)

-- behind the tag, whichever it is, stand the bytes behind the tag
spell_same : (t : ℕ) (c : Command) → (command_fields t).spell c ≡ without_tag (spelled.command c)
spell_same t c =
    elim (nat_lt t 9) as (λ b. (cond b (one_of desk_command_at t) (cond (nat_lt t 17) (one_of feed_command_at t) (cond (nat_lt t 25) (one_of draft_command_at t) (cond (nat_lt t 33) (one_of release_command_at t) (one_of newer_command_at t))))).spell c ≡ without_tag (spelled.command c)) [
      | true ↦ refl
      | false ↦ elim (nat_lt t 17) as (λ b. (cond b (one_of feed_command_at t) (cond (nat_lt t 25) (one_of draft_command_at t) (cond (nat_lt t 33) (one_of release_command_at t) (one_of newer_command_at t)))).spell c ≡ without_tag (spelled.command c)) [
        | true ↦ refl
        | false ↦ elim (nat_lt t 25) as (λ b. (cond b (one_of draft_command_at t) (cond (nat_lt t 33) (one_of release_command_at t) (one_of newer_command_at t))).spell c ≡ without_tag (spelled.command c)) [
          | true ↦ refl
          | false ↦ elim (nat_lt t 33) as (λ b. (cond b (one_of release_command_at t) (one_of newer_command_at t)).spell c ≡ without_tag (spelled.command c)) [ true ↦ refl | false ↦ refl ]
        ]
      ]
    ]

tagged : (t : ℕ) (c : Command) → t ∷ without_tag (spelled.command c) ≡ t ∷ (command_fields t).spell c
tagged t c = ap (λ l. t ∷ l) (sym (spell_same t c))

within : (b : Bool) (n m : ℕ) → 1 ≤ n → n ≤ 38 → 1 ≤ m → m ≤ 38 → (1 ≤ cond b n m) × (cond b n m ≤ 38)
within true n m a b c d = (a, b)
within false n m a b c d = (c, d)

command_to : (c : Command) → Tagged c
command_to (AddUser _ _) = ((omega arith, omega arith), refl)
command_to (SetUser _ _) = ((omega arith, omega arith), refl)
command_to (AddDesk _) = ((omega arith, omega arith), refl)
command_to (AddStage _ _) = ((omega arith, omega arith), refl)
command_to (SetMember _ _ _) = ((omega arith, omega arith), refl)
command_to (AddCondition _ _ _ _) = ((omega arith, omega arith), refl)
command_to (AddFilter _ _) = ((omega arith, omega arith), refl)
command_to (SetFilter _ _) = ((omega arith, omega arith), refl)
command_to (SetBlock _ _) = ((omega arith, omega arith), refl)
command_to (AddProduct _ _ _) = ((omega arith, omega arith), refl)
command_to (SetProduct _ _ _) = ((omega arith, omega arith), refl)
command_to (AddSubscriber name form names lag) = (within (lag == 0) 12 37 (omega arith) (omega arith) (omega arith) (omega arith), tagged (by_lag lag 12 37) (AddSubscriber name form names lag))
command_to (SetSubscriber _ _ _ _ None) = ((omega arith, omega arith), refl)
command_to (SetSubscriber _ _ _ _ (Some lag)) = ((omega arith, omega arith), refl)
command_to (Resume _) = ((omega arith, omega arith), refl)
command_to (AddScheme _ _) = ((omega arith, omega arith), refl)
command_to (AddProvider _ _) = ((omega arith, omega arith), refl)
command_to (Create desk told) = (within (is_empty told.copyright) 17 33 (omega arith) (omega arith) (omega arith) (omega arith), tagged (by_credit told.copyright 17 33) (Create desk told))
command_to (Flash told targets) = (within (is_empty told.copyright) 18 34 (omega arith) (omega arith) (omega arith) (omega arith), tagged (by_credit told.copyright 18 34) (Flash told targets))
command_to (Lock _ _) = ((omega arith, omega arith), refl)
command_to (Unlock _ _) = ((omega arith, omega arith), refl)
command_to (BreakLock _) = ((omega arith, omega arith), refl)
command_to (Edit item session told) = (within (is_empty told.copyright) 22 35 (omega arith) (omega arith) (omega arith) (omega arith), tagged (by_credit told.copyright 22 35) (Edit item session told))
command_to (MoveTo _ _ _) = ((omega arith, omega arith), refl)
command_to (Spike _) = ((omega arith, omega arith), refl)
command_to (Unspike _ _) = ((omega arith, omega arith), refl)
command_to (Fetch _ _) = ((omega arith, omega arith), refl)
command_to (Publish _ _ _ _ _) = ((omega arith, omega arith), refl)
command_to (Correct item session told) = (within (is_empty told.copyright) 28 36 (omega arith) (omega arith) (omega arith) (omega arith), tagged (by_credit told.copyright 28 36) (Correct item session told))
command_to (Kill _ _ _) = ((omega arith, omega arith), refl)
command_to (Recall _ _ _) = ((omega arith, omega arith), refl)
command_to (Deschedule _) = ((omega arith, omega arith), refl)
command_to Stop = ((omega arith, omega arith), refl)

pub command_lawful : Lawful command IsCommand
unfolding command_at
command_lawful =
    via (chain (ranged 1 38) command_fields command_tag) (λ c. ((1 ≤ command_tag c) × (command_tag c ≤ 38)) × OfTag (command_tag c) c) command IsCommand (λ c. c)
    (chain_lawful (ranged 1 38) (λ n. (1 ≤ n) × (n ≤ 38)) command_fields OfTag command_tag (ranged_lawful 1 38 (omega arith)) (λ t h. from_1 t h.0 h.1) (λ t c h q. q.tag))
    (λ bytes. read_again (command_at bytes)) (λ c h. (h.1.is, (command_to c).1)) (λ c h. (c, ((command_to c).0, record { tag = refl; is = h }), refl))
