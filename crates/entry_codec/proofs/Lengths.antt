-- How long an entry's bytes are at most.
use Rattle.std.proofs.Common.{ℕ, ◌==◌, ◌+◌, ◌<◌, ◌≤◌, ◌*◌, cond, List, [], ◌∷◌, length, Option, Some, None, Bool, true, false, ap, arith, length-append}
use Rattle.std.specs.Prelude.{All}
use Rattle.std.specs.List.{flat_map, AllByRecursion}
use Rattle.std.proofs.Math.Nat.{suc-mul, mul-le-mul_right}
use Rattle.std.proofs.lemmas.List.Concat.{flat_map-cons}
use Rattle.std.proofs.lemmas.List.Elements.{recursion_from_All, All-weaker}
use Rattle.news_types.specs.declared.story.Story.{Story}
use Rattle.news_types.specs.declared.story.Incoming.{Incoming}
use Rattle.news_types.specs.declared.rules.Statement.{Statement}
use Rattle.news_types.specs.declared.rules.Place.{Place}
use Rattle.news_types.specs.declared.rules.Rule.{Rule}
use Rattle.news_types.specs.declared.command.Command.{Command}
use Rattle.news_types.specs.declared.command.Command.TheVariants.{AddUser, SetUser, AddDesk, AddStage, SetMember, AddCondition, AddFilter, SetFilter, SetBlock, AddProduct, SetProduct, AddSubscriber, SetSubscriber, Resume, AddScheme, AddProvider, Create, Flash, Lock, Unlock, BreakLock, Edit, MoveTo, Spike, Unspike, Fetch, Publish, Correct, Kill, Recall, Deschedule, Stop}
use Rattle.news_types.specs.declared.entry.Act.{Act}
use Rattle.news_types.specs.declared.entry.Act.TheVariants.{Advance, Attempt, Receipt, Halt, Ingest, Request}
use Rattle.news_types.specs.declared.entry.Entry.{Entry}
use Rattle.byte_formats.specs.Spelling.{◌&◌, IsName, IsOption, byte, u16, u32, u64, name, text, list, option, flag, is_empty}
use Rattle.byte_formats.proofs.Names.{name_parts}
use Rattle.entry_codec.specs.Spelling.{field_number, op_number, how_number, format_number, status_number, plain_story, story, with_lag, with_given, incoming, statement, place, rule, command, act, entry_bytes}
use Rattle.news_types.specs.Fits.{FitsStory, FitsIncoming}
use Rattle.news_types.specs.FitsCommands.{FitsValues, FitsStatement, FitsStatements, FitsRule, FitsScheme}
use Rattle.entry_codec.specs.Formed.{IsFormedStatement, IsFormedPlace, IsFormedRule, IsEntry}
use Rattle.entry_codec.proofs.CommandLaws.{IsCommand}
use Rattle.entry_codec.proofs.EntryLaws.{IsAct}

-- ---- fields

each_len : {A : Type 0} (spell : A → List ℕ) (k : ℕ) (xs : List A) → AllByRecursion (λ x. length (spell x) ≤ k) xs → length (flat_map spell xs) ≤ length xs * k
each_len spell k [] h = omega arith
each_len spell k (x ∷ xs) h =
    let e = ap length (flat_map-cons spell x xs) in
    omega (arith, e, each_len spell k xs h.1, h.0, suc-mul (length xs) k, length-append (spell x) (flat_map spell xs))

list_len : {A : Type 0} (spell : A → List ℕ) (k n : ℕ) (xs : List A) → length xs ≤ n → All (λ x. length (spell x) ≤ k) xs → length (flat_map spell xs) ≤ n * k
list_len spell k n xs few h = omega (arith, each_len spell k xs (recursion_from_All (λ x. length (spell x) ≤ k) xs h), mul-le-mul_right {m = length xs} {n = n} k few)

name_len : (n : List ℕ) → IsName n → length n ≤ 32
name_len n h = (name_parts n h).1

names_len : (n : ℕ) (xs : List (List ℕ)) → length xs ≤ n → All IsName xs → length (flat_map name xs) ≤ n * 33
names_len n xs few h = list_len name 33 n xs few (All-weaker IsName (λ x. length (name x) ≤ 33) (λ x p. omega (arith, name_len x p)) xs h)

optional_name_len : (o : Option (List ℕ)) → IsOption IsName o → length (option name o) ≤ 34
optional_name_len None h = omega arith
optional_name_len (Some x) h = omega (arith, name_len x h)

optional_moment_len : (o : Option ℕ) → length (option u64 o) ≤ 9
optional_moment_len None = omega arith
optional_moment_len (Some x) = omega arith

flag_len : (f : Bool) → length (flag f) ≤ 1
flag_len false = omega arith
flag_len true = omega arith

values_len : (vs : List (List ℕ)) → FitsValues vs → length (flat_map text vs) ≤ 64 * 504
values_len vs h = list_len text 504 64 vs h.few (All-weaker (λ v. length v ≤ 500) (λ v. length (text v) ≤ 504) (λ v p. omega arith) vs h.short)

plain_len : (s : Story) → FitsStory s → length (plain_story s) ≤ 526200
plain_len s h =
    let e = text s.headline & text s.byline & text s.language & text s.category & text s.body & flag s.html in
    let d = text s.byline & text s.language & text s.category & text s.body & flag s.html in
    let c = text s.language & text s.category & text s.body & flag s.html in
    let b = text s.category & text s.body & flag s.html in
    let a = text s.body & flag s.html in
    omega (
      arith,
      h.slugline,
      h.headline,
      h.byline,
      h.language,
      h.category,
      h.body,
      flag_len s.html,
      length-append s.slugline e,
      length-append s.headline d,
      length-append s.byline c,
      length-append s.language b,
      length-append s.category a,
      length-append s.body (flag s.html),
    )

story_len : (s : Story) → FitsStory s → length (story s) ≤ 526800
story_len s h = by (is_empty s.copyright)
  where
    by : (b : Bool) → length (cond b (plain_story s) (plain_story s & text s.copyright)) ≤ 526800
    by true = omega (arith, plain_len s h)
    by false = omega (arith, plain_len s h, h.copyright, length-append (plain_story s) (text s.copyright))

late_len : (fields : List ℕ) (lag : ℕ) → length (with_lag fields lag) ≤ length fields + 4
late_len fields lag = by (lag == 0)
  where
    by : (b : Bool) → length (cond b fields (fields & u32 lag)) ≤ length fields + 4
    by true = omega arith
    by false = omega (arith, length-append fields (u32 lag))

given_len : (fields : List ℕ) (lag : Option ℕ) → length (with_given fields lag) ≤ length fields + 4
given_len fields None = omega arith
given_len fields (Some lag) = omega (arith, length-append fields (u32 lag))

incoming_len : (i : Incoming) → FitsIncoming i → length (incoming i) ≤ 528000
incoming_len i h = omega (arith, h.identity, story_len i.story h.story, length-append i.identity (u64 i.created & u64 i.embargo & byte (status_number i.status) & story i.story))

statement_len : (s : Statement) → FitsStatement s → IsFormedStatement s → length (statement s) ≤ 800
statement_len s f g = omega (arith, names_len 16 s.conditions f.conditions g.conditions, names_len 8 s.filters f.filters g.filters, length-append (flat_map name s.conditions) (list name s.filters))

statements_len : (xs : List Statement) → FitsStatements xs → All IsFormedStatement xs → length (flat_map statement xs) ≤ 16 * 800
statements_len xs f g = list_len statement 800 16 xs f.few (λ k d l. statement_len _ (f.each k d l) (g k d l))

optional_place_len : (o : Option Place) → IsOption IsFormedPlace o → length (option place o) ≤ 67
optional_place_len None h = omega arith
optional_place_len (Some p) h = omega (arith, name_len p.desk h.desk, name_len p.stage h.stage, length-append p.desk (name p.stage))

rule_len : (r : Rule) → FitsRule r → IsFormedRule r → length (rule r) ≤ 200
rule_len r f g =
    let d = byte r.days & u32 r.from & u32 r.to & text r.zone & option place r.fetch & flag r.publish & flag r.exit in
    let c = option place r.fetch & flag r.publish & flag r.exit in
    omega (
      arith,
      f.zone,
      optional_name_len r.filter g.filter,
      optional_place_len r.fetch g.fetch,
      flag_len r.publish,
      flag_len r.exit,
      length-append (option name r.filter) d,
      length-append r.zone c,
      length-append (option place r.fetch) (flag r.publish & flag r.exit),
      length-append (flag r.publish) (flag r.exit),
    )

rules_len : (xs : List Rule) → FitsScheme xs → All IsFormedRule xs → length (flat_map rule xs) ≤ 64 * 200
rules_len xs f g = list_len rule 200 64 xs f.few (λ k d l. rule_len _ (f.each k d l) (g k d l))

-- ---- commands, acts and entries

command_len : (c : Command) → IsCommand c → length (command c) ≤ 540000
command_len (AddUser user set) h = omega (arith, name_len user h.formed, length-append user (u16 set.bits))
command_len (SetUser user set) h = omega (arith, name_len user h.formed, length-append user (u16 set.bits))
command_len (AddDesk desk) h = omega (arith, name_len desk h.formed)
command_len (AddStage desk stage) h = omega (arith, name_len desk h.formed.0, name_len stage h.formed.1, length-append desk (name stage))
command_len (SetMember desk user member) h = omega (arith, name_len desk h.formed.0, name_len user h.formed.1, flag_len member, length-append desk (name user & flag member), length-append user (flag member))
command_len (AddCondition condition reads compares values) h = omega (arith, name_len condition h.formed.0, values_len values h.fits, length-append condition (byte (field_number reads) & byte (op_number compares) & list text values))
command_len (AddFilter by statements) h = omega (arith, name_len by h.formed.0, statements_len statements h.fits h.formed.1, length-append by (list statement statements))
command_len (SetFilter by statements) h = omega (arith, name_len by h.formed.0, statements_len statements h.fits h.formed.1, length-append by (list statement statements))
command_len (SetBlock by on) h = omega (arith, name_len by h.formed, flag_len on, length-append by (flag on))
command_len (AddProduct product selects by) h = omega (arith, name_len product h.formed.0, optional_name_len by h.formed.1, length-append product (byte (how_number selects) & option name by))
command_len (SetProduct product selects by) h = omega (arith, name_len product h.formed.0, optional_name_len by h.formed.1, length-append product (byte (how_number selects) & option name by))
command_len (AddSubscriber subscriber form products lag) h = omega (arith, name_len subscriber h.formed.0, names_len 64 products h.fits.0 h.formed.1, late_len (list name products) lag, length-append subscriber (byte (format_number form) & with_lag (list name products) lag))
command_len (SetSubscriber subscriber active products off lag) h = omega (arith, name_len subscriber h.formed.0, flag_len active, names_len 64 products h.fits.0 h.formed.1, names_len 64 off h.fits.1 h.formed.2, given_len (list name off) lag, length-append subscriber (flag active & list name products & with_given (list name off) lag), length-append (flag active) (list name products & with_given (list name off) lag), length-append (flat_map name products) (with_given (list name off) lag))
command_len (Resume subscriber) h = omega (arith, name_len subscriber h.formed)
command_len (AddScheme scheme inside) h = omega (arith, name_len scheme h.formed.0, rules_len inside h.fits h.formed.1, length-append scheme (list rule inside))
command_len (AddProvider provider scheme) h = omega (arith, name_len provider h.formed.0, optional_name_len scheme h.formed.1, length-append provider (option name scheme))
command_len (Create desk told) h = omega (arith, name_len desk h.formed.0, story_len told h.fits, length-append desk (story told))
command_len (Flash told targets) h = omega (arith, story_len told h.fits.0, names_len 256 targets h.fits.1 h.formed.1, length-append (story told) (list name targets))
command_len (Lock item session) h = omega (arith, name_len session h.formed.1)
command_len (Unlock item session) h = omega (arith, name_len session h.formed.1)
command_len (BreakLock item) h = omega arith
command_len (Edit item session told) h = omega (arith, name_len session h.formed.1, story_len told h.fits, length-append session (story told))
command_len (MoveTo item desk stage) h = omega (arith, name_len desk h.formed.1, name_len stage h.formed.2, length-append desk (name stage))
command_len (Spike item) h = omega arith
command_len (Unspike item desk) h = omega (arith, name_len desk h.formed.1)
command_len (Fetch item desk) h = omega (arith, name_len desk h.formed.1)
command_len (Publish item session schedule embargo targets) h = omega (arith, name_len session h.formed.1, optional_moment_len schedule, optional_moment_len embargo, names_len 256 targets h.fits.2 h.formed.2, length-append session (option u64 schedule & option u64 embargo & list name targets), length-append (option u64 schedule) (option u64 embargo & list name targets), length-append (option u64 embargo) (list name targets))
command_len (Correct item session told) h = omega (arith, name_len session h.formed.1, story_len told h.fits, length-append session (story told))
command_len (Kill item session note) h = omega (arith, name_len session h.formed.1, h.fits, length-append session (text note))
command_len (Recall item session note) h = omega (arith, name_len session h.formed.1, h.fits, length-append session (text note))
command_len (Deschedule item) h = omega arith
command_len Stop h = omega arith

act_len : (a : Act) → IsAct a → length (act a) ≤ 550000
act_len Advance h = omega arith
act_len (Attempt subscriber k) h = omega (arith, name_len subscriber h.formed.0, length-append subscriber (u32 k))
act_len (Receipt subscriber n) h = omega (arith, name_len subscriber h.formed.0, length-append subscriber (u32 n))
act_len Halt h = omega arith
act_len (Ingest provider brought) h = omega (arith, name_len provider h.formed.0, incoming_len brought h.fits, length-append provider (incoming brought))
act_len (Request caller number asked) h =
    omega (arith, name_len caller h.formed.0, command_len asked (record { fits = h.fits; formed = h.formed.2 }), length-append caller (u64 number & command asked))

pub entry_len : (e : Entry) → IsEntry e → length (entry_bytes e) < 2097088
entry_len e h = omega (arith, act_len e.act (record { fits = h.fits.act; formed = h.formed }))
