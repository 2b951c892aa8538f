-- What is told of the publications of an item.
use Rattle.std.specs.Prelude.{ℕ, Bool, List, Option, Some, None, option_map}
use Rattle.std.specs.List.{flat_map}
use Rattle.std.specs.Option.{option_to_list}
use Rattle.serde_json.specs.Data.{Items, Members, no_members}
use Rattle.news_types.specs.Names.{Bytes}
use Rattle.news_types.specs.History.{History}
use Rattle.news_types.specs.Due.{Pub}
use Rattle.news_types.specs.Publications.{pubs}
use Rattle.publications.specs.declared.table.Published.{Published}
use Rattle.feed_reasons.specs.declared.course.Course.{Course}
use Rattle.feed_reasons.specs.declared.course.Course.TheVariants.{Sent}
use Rattle.feed_reasons.specs.Courses.{course, due_of, numbered}
use Rattle.desk_answers.specs.Words.{kind_word}
use Rattle.told_objects.specs.Members.{◌with◌, text, number, flag, list, answering, written}
use Rattle.desk_views.specs.Publications.{Destined, destined, stands, publications_of}
use Rattle.desk_questions.specs.declared.courses.Addressee.{Addressee}
use Rattle.desk_questions.specs.Words.{course_word}
use Rattle.desk_questions.specs.Rows.{rows}

-- its entry of the feed, and whether that is acknowledged, if it was sent
unfoldable pub sent : Course → Members → Members
sent (Sent k acked) members = members with flag "acked" acked with number "k" k
sent _ members = members

-- what becomes of a publication for one to whom it was made due
unfoldable pub destined_row : Destined → Members
destined_row d =
    no_members with sent d.course with text "course" (course_word d.course) with number "release" d.release
    with text "subscriber" d.subscriber

unfoldable pub publication_row : History → Pub → Members
publication_row h p =
    no_members with list "due" destined_row (destined h p) with text "kind" (kind_word p.kind) with number "publication" p.number
    with number "release" p.release with flag "stands" (stands h p) with number "version" p.version

-- the first hundred publications of an item above a number
abbrev pub publications_bytes : History → ℕ → ℕ → Bytes
publications_bytes h i after = written (answering "publications" with list "rows" (publication_row h) (publications_of h i after))

-- ---- by the numbers of publications

abbrev pub destined_in : Addressee → Destined
destined_in found = record { subscriber = found.subscriber; release = found.release; course = found.course }

abbrev pub destiny_at : History → ℕ → Bytes → ℕ → Destined
destiny_at h n s release = record { subscriber = s; release = release; course = course h n s }

-- what becomes of publication n for the subscriber, if it was made due to it
abbrev pub destiny : History → ℕ → Bytes → Option Destined
destiny h n s = option_map (destiny_at h n s) (due_of s (numbered n (pubs h)))

-- of these subscribers, for each to whom it was made due
abbrev pub destinies : History → ℕ → List Bytes → List Destined
destinies h n names = flat_map (λ s. option_to_list (destiny h n s)) names

-- what is kept of publication n, with these rows of those to whom it was made due
unfoldable pub published_members : ℕ → Published → Items → Bool → Members
published_members n p due standing =
    no_members with rows "due" due with text "kind" (kind_word p.kind) with number "publication" n
    with number "release" p.release with flag "stands" standing with number "version" p.version

abbrev pub row_if_there : History → Option Pub → Members
row_if_there h None = no_members
row_if_there h (Some p) = publication_row h p

-- publication n, if it is there
abbrev pub row_by_number : History → ℕ → Members
row_by_number h n = row_if_there h (numbered n (pubs h))
