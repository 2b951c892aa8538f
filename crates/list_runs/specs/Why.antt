-- Why a publication is due to a subscriber or not, and what became of it, as it is told.
use Rattle.std.specs.Prelude.{ℕ, [], ◌∷◌, ◌++◌, if◌then◌else◌, Option, Some, None}
use Rattle.serde_json.specs.Data.{Members}
use Rattle.news_types.specs.declared.denial.Denial.TheVariants.{UnknownThing}
use Rattle.news_types.specs.declared.words.Thing.TheVariants as thing
use Rattle.news_types.specs.Names.{Bytes}
use Rattle.news_types.specs.History.{History}
use Rattle.news_types.specs.Products.{is_subscriber}
use Rattle.news_types.specs.Due.{Pub}
use Rattle.news_types.specs.Publications.{pubs}
use Rattle.feed_reasons.specs.Courses.{numbered}
use Rattle.feed_reasons.specs.Reasons.{Reasons, reasons_of, made_behind, says_due}
use Rattle.told_objects.specs.Members.{◌with◌, text, number, flag, inner, answering, written}
use Rattle.desk_answers.specs.Answers.{denial_bytes}
use Rattle.desk_answers.specs.Words.{kind_word}
use Rattle.desk_questions.specs.Words.{course_word}
use Rattle.desk_questions.specs.Reach.{verdict_row}
use Rattle.desk_questions.specs.Publications.{sent}
use Rattle.list_runs.specs.declared.reasons.Found.{Found}

-- what was found of a publication for a subscriber
abbrev pub reasons_in : Found → Reasons
reasons_in found = record { kind = found.kind; verdict = found.verdict; had = found.had; course = found.course }

-- what they say, without the verdict and the entry of the feed
unfoldable pub said_members : Reasons → Members
said_members r =
    answering "why" with text "course" (course_word r.course) with flag "due" (says_due r) with flag "had" r.had with text "kind" (kind_word r.kind)

-- of publication n of an item, for the subscriber
unfoldable pub named : ℕ → ℕ → Bytes → Members → Members
named n item s members = members with number "item" item with number "publication" n with text "subscriber" s

abbrev pub why_members : ℕ → ℕ → Bytes → Reasons → Members
why_members n item s r = said_members r with named n item s with inner "verdict" (verdict_row r.verdict) with sent r.course

abbrev pub why_object : History → ℕ → Bytes → Pub → Bytes
why_object h n s p = written (why_members n p.item s (reasons_of h (made_behind n h) s p))

-- a subscriber that is not there is told to be unknown
abbrev pub unless_unknown : History → Bytes → Bytes → Bytes
unless_unknown h s object = if is_subscriber h s then object else denial_bytes (UnknownThing thing.Subscriber)

abbrev pub why_of : History → ℕ → Bytes → Option Pub → Bytes
why_of h n s None = denial_bytes (UnknownThing thing.Publication)
why_of h n s (Some p) = unless_unknown h s (why_object h n s p)

-- publication n, if it is there, and the subscriber, if it is there, at the end of the list
abbrev pub why_bytes : History → ℕ → Bytes → Bytes
why_bytes h n s = why_of h n s (numbered n (pubs h))

-- with a line feed
abbrev pub why_line : History → ℕ → Bytes → Bytes
why_line h n s = why_bytes h n s ++ 10 ∷ []
