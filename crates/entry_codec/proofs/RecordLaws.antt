-- The laws of stories, of what providers send, and of statements, places and rules.
use Rattle.std.proofs.Common.{◌≡◌, ℕ, ◌<◌, ◌≤◌, ◌^◌, ◌⊎◌, inl, inr, List, [], ◌∷◌, ◌++◌, Option, refl, sym, ap, ◌∙◌, arith, Bool, false, cond}
use Rattle.std.specs.Prelude.{IsUtf8}
use Rattle.std.specs.Int.{w32}
use Rattle.news_types.specs.declared.story.Story.{Story}
use Rattle.news_types.specs.declared.story.Incoming.{Incoming}
use Rattle.news_types.specs.declared.rules.Statement.{Statement}
use Rattle.news_types.specs.declared.rules.Rule.{Rule}
use Rattle.byte_formats.specs.Spelling.{IsName, IsText, IsList, IsOption, text as text_bytes, is_empty}
use Rattle.byte_formats.specs.Except.{some_text}
use Rattle.byte_formats.proofs.Except.{some_text_lawful}
use Rattle.byte_formats.specs.Format.{Format, pair, ranged, whole}
use Rattle.byte_formats.specs.Fields.{name, text, option, list, flag}
use Rattle.byte_formats.proofs.Laws.{Lawful, via}
use Rattle.byte_formats.proofs.Fields.{pair_lawful, ranged_lawful}
use Rattle.byte_formats.proofs.Numbers.{wide32, whole_lawful}
use Rattle.byte_formats.proofs.Names.{name_lawful}
use Rattle.byte_formats.proofs.Texts.{text_lawful, scan_utf8}
use Rattle.byte_formats.proofs.Options.{option_lawful, list_lawful, flag_lawful}
use Rattle.news_types.specs.Fits.{IsMoment, FitsStory, FitsIncoming}
use Rattle.news_types.specs.FitsCommands.{FitsStatement, FitsRule}
use Rattle.entry_codec.specs.Formed.{IsFormedStory, IsFormedIncoming, IsFormedStatement, IsFormedPlace, IsFormedRule}
use Rattle.entry_codec.specs.Spelling as spelled
use Rattle.entry_codec.specs.Spelling.{plain_story, with_credit}
use Rattle.entry_codec.specs.Reading as reading
use Rattle.entry_codec.specs.Reading.{story_at, story_fields, story_of, credited_at, credited_fields, credited_of, incoming_at, credited_incoming_at, incoming_fields, incoming_of, statement_at, statement_fields, place_at, rule_at, rule_fields, rule_of}
use Rattle.entry_codec.proofs.WordLaws.{Any, kind_lawful, status_lawful, moment_lawful}

-- ---- a format with its law

pub record Kept (A : Type 0) : Type 1 where
  pub format : Format A
  pub holds : A → Type 0
  pub law : Lawful format holds

abbrev pub kept : {A : Type 0} (F : Format A) (P : A → Type 0) → Lawful F P → Kept A
kept F P l = record { format = F; holds = P; law = l }

-- one behind the other
abbrev pub both : {A B : Type 0} → Kept A → Kept B → Kept (A × B)
both a b = record { format = pair a.format b.format; holds = λ p. a.holds p.0 × b.holds p.1; law = pair_lawful a.format a.holds b.format b.holds a.law b.law }

abbrev pub a_name : Kept (List ℕ)
a_name = kept name IsName name_lawful

abbrev pub a_flag : Kept Bool
a_flag = kept flag (λ _. Unit {0}) flag_lawful

abbrev pub a_text : (limit : ℕ) → limit < 2 ^ 32 → Kept (List ℕ)
a_text limit fits = kept (text limit) (IsText limit) (text_lawful limit fits)

abbrev pub a_number : Kept ℕ
a_number = kept (whole w32) (λ n. n < 2 ^ 32) (whole_lawful w32 (2 ^ 32) wide32)

abbrev pub a_byte : (most : ℕ) → Kept ℕ
a_byte most = kept (ranged 0 most) (λ b. (0 ≤ b) × (b ≤ most)) (ranged_lawful 0 most (omega arith))

abbrev pub a_moment : Kept ℕ
a_moment = kept reading.moment IsMoment moment_lawful

abbrev pub some_names : (limit : ℕ) → limit < 2 ^ 16 → Kept (List (List ℕ))
some_names limit fits = kept (list limit name) (IsList limit IsName) (list_lawful limit name IsName fits name_lawful)

abbrev pub maybe : {A : Type 0} → Kept A → Kept (Option A)
maybe k = kept (option k.format) (IsOption k.holds) (option_lawful k.format k.holds k.law)

-- ---- stories

pub record IsStory (s : Story) : Type 0 where
  pub fits : FitsStory s
  pub formed : IsFormedStory s

abbrev story_kept : Kept reading.StoryFields
story_kept =
    both (kept reading.kind Any kind_lawful) (both (a_byte 9) (both (a_text 500 (omega arith)) (both (a_text 500 (omega arith)) (both (a_text 500 (omega arith))
    (both (a_text 35 (omega arith)) (both (a_text 3 (omega arith)) (both (a_text 524288 (omega arith)) a_flag)))))))

-- one without a copyright, and one with it
pub record IsPlain (s : Story) : Type 0 where
  pub is : IsStory s
  pub none : s.copyright ≡ []

pub record IsCredited (s : Story) : Type 0 where
  pub is : IsStory s
  pub some : is_empty s.copyright ≡ false

no_bytes : IsUtf8 []
no_bytes = scan_utf8 0 [] tt

story_to : (p : reading.StoryFields) → story_kept.holds p → IsStory (story_of p)
story_to p h = record {
  fits = record {
    urgency = h.1.0.1;
    slugline = h.1.1.0.0;
    headline = h.1.1.1.0.0;
    byline = h.1.1.1.1.0.0;
    language = h.1.1.1.1.1.0.0;
    category = h.1.1.1.1.1.1.0.0;
    body = h.1.1.1.1.1.1.1.0.0;
    copyright = omega arith;
  };
  formed = record {
    plain = record {
      slugline = h.1.1.0.1;
      headline = h.1.1.1.0.1;
      byline = h.1.1.1.1.0.1;
      language = h.1.1.1.1.1.0.1;
      category = h.1.1.1.1.1.1.0.1;
      body = h.1.1.1.1.1.1.1.0.1;
    };
    copyright = no_bytes;
  };
}

story_back : (s : Story) → IsPlain s → (p : reading.StoryFields) × story_kept.holds p × (story_of p ≡ s)
story_back s h =
    let f = h.is.fits in
    let g = h.is.formed.plain in (
      (s.kind, (s.urgency, (s.slugline, (s.headline, (s.byline, (s.language, (s.category, (s.body, s.html)))))))),
      (tt, ((omega arith, f.urgency), ((f.slugline, g.slugline), ((f.headline, g.headline), ((f.byline, g.byline), ((f.language, g.language), ((f.category, g.category), ((f.body, g.body), tt)))))))),
      ap (λ (c : List ℕ). record s { copyright = c }) (sym h.none),
    )

pub story_lawful : Lawful reading.story IsPlain
unfolding story_at
story_lawful = via story_fields story_kept.holds reading.story IsPlain story_of story_kept.law (λ bytes. refl) (λ p h. (record { is = story_to p h; none = refl }, refl)) story_back

-- ---- with a copyright

abbrev credited_kept : Kept (Story × List ℕ)
credited_kept = both (kept reading.story IsPlain story_lawful) (kept (some_text 500) (λ t. IsText 500 t × (is_empty t ≡ false)) (some_text_lawful 500 (omega arith) (omega arith)))

abbrev with_copyright : Story → List ℕ → Story
with_copyright s c = record s { copyright = c }

copyright_changed : (s : Story) (c : List ℕ) → IsStory s → IsText 500 c → IsStory (with_copyright s c)
copyright_changed s c h text = record {
  fits = record {
    urgency = h.fits.urgency;
    slugline = h.fits.slugline;
    headline = h.fits.headline;
    byline = h.fits.byline;
    language = h.fits.language;
    category = h.fits.category;
    body = h.fits.body;
    copyright = text.0;
  };
  formed = record {
    plain = record {
      slugline = h.formed.plain.slugline;
      headline = h.formed.plain.headline;
      byline = h.formed.plain.byline;
      language = h.formed.plain.language;
      category = h.formed.plain.category;
      body = h.formed.plain.body;
    };
    copyright = text.1;
  };
}

credited_spelled : (s : Story) (c : List ℕ) → s.copyright ≡ [] → is_empty c ≡ false → spelled.story (with_copyright s c) ≡ spelled.story s ++ text_bytes c
credited_spelled s c none some =
    ap (λ (b : Bool). cond b (plain_story s) (plain_story s ++ text_bytes c)) some
    ∙ ap (λ (t : List ℕ). with_credit (plain_story s) t ++ text_bytes c) (sym none)

credited_to : (p : Story × List ℕ) → credited_kept.holds p → IsCredited (credited_of p) × (spelled.story (credited_of p) ≡ spelled.story p.0 ++ text_bytes p.1)
credited_to p h = (record { is = copyright_changed p.0 p.1 h.0.is h.1.0; some = h.1.1 }, credited_spelled p.0 p.1 h.0.none h.1.1)

credited_back : (s : Story) → IsCredited s → (p : Story × List ℕ) × credited_kept.holds p × (credited_of p ≡ s)
credited_back s h = (
  (with_copyright s [], s.copyright),
  (record { is = copyright_changed s [] h.is (omega arith, no_bytes); none = refl }, ((h.is.fits.copyright, h.is.formed.copyright), h.some)),
  refl,
)

pub credited_lawful : Lawful reading.credited IsCredited
unfolding credited_at
credited_lawful = via credited_fields credited_kept.holds reading.credited IsCredited credited_of credited_kept.law (λ bytes. refl) credited_to credited_back

-- a story is one of the two
pub plain_or : (c : List ℕ) → (c ≡ []) ⊎ (is_empty c ≡ false)
plain_or [] = inl refl
plain_or (b ∷ bytes) = inr refl

-- ---- what providers send

pub record IsIncoming (i : Incoming) : Type 0 where
  pub fits : FitsIncoming i
  pub formed : IsFormedIncoming i

pub record IsPlainIncoming (i : Incoming) : Type 0 where
  pub is : IsIncoming i
  pub none : i.story.copyright ≡ []

pub record IsCreditedIncoming (i : Incoming) : Type 0 where
  pub is : IsIncoming i
  pub some : is_empty i.story.copyright ≡ false

abbrev incoming_kept : Kept Story → Kept reading.IncomingFields
incoming_kept told = both (a_text 256 (omega arith)) (both a_moment (both a_moment (both (kept reading.status Any status_lawful) told)))

abbrev pub plain_told : Kept Story
plain_told = kept reading.story IsPlain story_lawful

abbrev pub credited_told : Kept Story
credited_told = kept reading.credited IsCredited credited_lawful

pub incoming_lawful : Lawful reading.incoming IsPlainIncoming
unfolding incoming_at
incoming_lawful =
    via (incoming_fields reading.story) (incoming_kept plain_told).holds reading.incoming IsPlainIncoming incoming_of (incoming_kept plain_told).law (λ bytes. refl)
    (λ p h. (
      record {
        is = record {
          fits = record { identity = h.0.0; created = h.1.0; embargo = h.1.1.0; story = h.1.1.1.1.is.fits };
          formed = record { identity = h.0.1; story = h.1.1.1.1.is.formed };
        };
        none = h.1.1.1.1.none;
      },
      refl,
    ))
    (λ i h. let f = h.is.fits in let g = h.is.formed in
    ((i.identity, (i.created, (i.embargo, (i.status, i.story)))), ((f.identity, g.identity), (f.created, (f.embargo, (tt, record { is = record { fits = f.story; formed = g.story }; none = h.none })))), refl))

pub credited_incoming_lawful : Lawful reading.credited_incoming IsCreditedIncoming
unfolding credited_incoming_at
credited_incoming_lawful =
    via (incoming_fields reading.credited) (incoming_kept credited_told).holds reading.credited_incoming IsCreditedIncoming incoming_of (incoming_kept credited_told).law (λ bytes. refl)
    (λ p h. (
      record {
        is = record {
          fits = record { identity = h.0.0; created = h.1.0; embargo = h.1.1.0; story = h.1.1.1.1.is.fits };
          formed = record { identity = h.0.1; story = h.1.1.1.1.is.formed };
        };
        some = h.1.1.1.1.some;
      },
      refl,
    ))
    (λ i h. let f = h.is.fits in let g = h.is.formed in
    ((i.identity, (i.created, (i.embargo, (i.status, i.story)))), ((f.identity, g.identity), (f.created, (f.embargo, (tt, record { is = record { fits = f.story; formed = g.story }; some = h.some })))), refl))

-- ---- statements, places and rules

pub record IsStatement (s : Statement) : Type 0 where
  pub fits : FitsStatement s
  pub formed : IsFormedStatement s

abbrev statement_kept : Kept (List (List ℕ) × List (List ℕ))
statement_kept = both (some_names 16 (omega arith)) (some_names 8 (omega arith))

pub statement_lawful : Lawful reading.statement IsStatement
unfolding statement_at
statement_lawful =
    via statement_fields statement_kept.holds reading.statement IsStatement (λ p. record { conditions = p.0; filters = p.1 }) statement_kept.law (λ bytes. refl)
    (λ p h. (record { fits = record { conditions = h.0.0; filters = h.1.0 }; formed = record { conditions = h.0.1; filters = h.1.1 } }, refl))
    (λ s h. ((s.conditions, s.filters), ((h.fits.conditions, h.formed.conditions), (h.fits.filters, h.formed.filters)), refl))

pub place_lawful : Lawful reading.place IsFormedPlace
unfolding place_at
place_lawful =
    via (pair name name) (λ p. IsName p.0 × IsName p.1) reading.place IsFormedPlace (λ p. record { desk = p.0; stage = p.1 }) (pair_lawful name IsName name IsName name_lawful name_lawful) (λ bytes. refl)
    (λ p h. (record { desk = h.0; stage = h.1 }, refl)) (λ p h. ((p.desk, p.stage), (h.desk, h.stage), refl))

pub record IsRule (r : Rule) : Type 0 where
  pub fits : FitsRule r
  pub formed : IsFormedRule r

abbrev rule_kept : Kept reading.RuleFields
rule_kept = both (maybe a_name) (both (a_byte 127) (both a_number (both a_number (both (a_text 64 (omega arith)) (both (maybe (kept reading.place IsFormedPlace place_lawful)) (both a_flag a_flag))))))

rule_to : (p : reading.RuleFields) → rule_kept.holds p → IsRule (rule_of p)
rule_to p h =
    let days : p.1.0 < 128 = omega (arith, h.1.0.1) in
    record {
      fits = record { days = days; zone = h.1.1.1.1.0.0 };
      formed = record { filter = h.0; from = h.1.1.0; to = h.1.1.1.0; zone = h.1.1.1.1.0.1; fetch = h.1.1.1.1.1.0 };
    }

rule_back : (r : Rule) → IsRule r → (p : reading.RuleFields) × rule_kept.holds p × (rule_of p ≡ r)
rule_back r h =
    let f = h.fits in
    let g = h.formed in
    let days : r.days ≤ 127 = omega (arith, f.days) in
    ((r.filter, (r.days, (r.from, (r.to, (r.zone, (r.fetch, (r.publish, r.exit))))))), (g.filter, ((omega arith, days), (g.from, (g.to, ((f.zone, g.zone), (g.fetch, (tt, tt))))))), refl)

pub rule_lawful : Lawful reading.rule IsRule
unfolding rule_at
rule_lawful = via rule_fields rule_kept.holds reading.rule IsRule rule_of rule_kept.law (λ bytes. refl) (λ p h. (rule_to p h, refl)) rule_back
