-- What a package holds, level by level.
use Rattle.std.specs.Prelude.{ℕ, zero, suc, ◌+◌, Bool, false, true, nat_eq, List, [], ◌∷◌, ◌++◌, if◌then◌else◌, Option, Some, None, unwrap_or}
use Rattle.std.specs.List.{list_any}
use Rattle.news_types.specs.declared.story.Story.{Story}
use Rattle.news_types.specs.declared.words.Media.{Media}
use Rattle.news_types.specs.declared.words.Media.TheVariants.{Composite}
use Rattle.news_types.specs.declared.query.Publication.{Publication}
use Rattle.news_types.specs.History.{History}
use Rattle.news_types.specs.Due.{Pub, shown}
use Rattle.news_types.specs.Publications.{pubs}
use Rattle.news_types.specs.Answers.{publication_at, last_of, number_of}
use Rattle.package_members.specs.declared.member.Member.{Member}
use Rattle.package_rules.specs.declared.lines.Line.{Line}
use Rattle.package_rules.specs.Text.{package_of}

-- ---- what is in a publication

abbrev pub is_composite : Media → Bool
is_composite Composite = true
is_composite _ = false

-- the members that a story names: none, unless it is composite with the text of a package
abbrev pub members_of_story : Story → List Member
members_of_story story = if is_composite story.kind then unwrap_or (package_of story.body) [] else []

abbrev pub members_of : Option Pub → List Member
members_of None = []
members_of (Some p) = members_of_story p.story

-- the members of publication n
abbrev pub members_in : History → ℕ → List Member
members_in h n = members_of (publication_at n (pubs h))

-- the number of the newest publication of an item below n, or 0
abbrev pub number_below : History → ℕ → ℕ → ℕ
number_below h i n = number_of (last_of i n (pubs h))

-- ---- lines

-- the lines so far, and the publications that were opened for them
pub record Walk : Type 0 where
  pub lines : List Line
  pub opened : List ℕ

abbrev pub is_opened : ℕ → Walk → Bool
is_opened n w = list_any (nat_eq n) w.opened

abbrev pub with_line : Line → Walk → Walk
with_line line w = record w { lines = w.lines ++ line ∷ [] }

abbrev pub line_of : ℕ → Member → ℕ → Line
line_of depth m p = record { depth = depth; role = m.role; item = m.item; publication = p }

-- behind the lines of these members of publication n, each followed by what its own publication opens
abbrev pub with_members : (ℕ → Walk → Walk) → History → ℕ → ℕ → List Member → Walk → Walk
with_members open_it h depth n [] w = w
with_members open_it h depth n (m ∷ members) w =
    let p : ℕ = number_below h m.item n in
    with_members open_it h depth n members (open_it p (with_line (line_of depth m p) w))

-- behind publication n, which is opened so many levels deep: the lines of its members stand at the depth. What was opened before is
-- not opened again
unfoldable pub with_opened : History → ℕ → ℕ → ℕ → Walk → Walk
with_opened h zero depth n w = w
with_opened h (suc levels) depth n w =
    if is_opened n w then w else with_members (with_opened h levels (depth + 1)) h depth n (members_in h n) (record w { opened = n ∷ w.opened })

-- the lines of publication n, 32 levels deep
abbrev pub contents : History → ℕ → List Line
contents h n = (with_opened h 32 1 n (record { lines = []; opened = [] })).lines
