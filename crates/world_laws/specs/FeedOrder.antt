-- What holds of every feed beside that it only grows.
use Rattle.std.specs.Prelude.{◌≡◌, false, true, ◌≤◌, ◌<◌, ◌⊎◌, ℕ, Bool, List, ◌++◌, Some, slice_get}
use Rattle.news_types.specs.declared.words.Kind.{Kind}
use Rattle.news_types.specs.declared.words.Kind.TheVariants.{Correct}
use Rattle.news_types.specs.declared.story.Story.{Story}
use Rattle.news_types.specs.Names.{Bytes}
use Rattle.news_types.specs.History.{History, moment}
use Rattle.news_types.specs.Members.{Each}
use Rattle.news_types.specs.Due.{Pub, is_first, takes_back, release_to}
use Rattle.news_types.specs.Publications.{standing}
use Rattle.news_types.specs.Feeds.{Dispatch, dispatch, feed, waiting}
use Rattle.news_types.specs.FeedLaws.{BeginsWith}
use Rattle.news_types.specs.Legal.{IsLegal}

-- the first comes before the second: by release for the subscriber, and of one release by number
abbrev pub ComesBefore : Dispatch → Dispatch → Type 0
ComesBefore d e = (d.release < e.release) ⊎ ((d.release ≡ e.release) × (d.shown.number < e.shown.number))

-- of any two the earlier comes before the later, so none stands there twice
abbrev pub IsInOrder : List Dispatch → Type 0
IsInOrder ds = (i j : ℕ) (d e : Dispatch) → i < j → slice_get ds i ≡ Some d → slice_get ds j ≡ Some e → ComesBefore d e

-- each is released to the subscriber by the moment, which is no earlier than its own release
abbrev pub AreReleased : ℕ → List Dispatch → Type 0
AreReleased m ds = Each (λ d. (d.shown.release ≤ d.release) × (d.release ≤ m)) ds

-- what is no first publication stands behind every earlier publication of its item
abbrev pub CorrectionsFollow : List Dispatch → Type 0
CorrectionsFollow ds = (i j : ℕ) (d e : Dispatch) → slice_get ds i ≡ Some d → slice_get ds j ≡ Some e →
    d.shown.item ≡ e.shown.item → is_first e.shown.kind ≡ false → d.shown.number < e.shown.number → i < j

abbrev pub FeedsInOrder : Type 0
FeedsInOrder = (h : History) (s : Bytes) → IsInOrder (feed h s) × AreReleased (moment h) (feed h s)

abbrev pub CorrectionsComeLater : Type 0
CorrectionsComeLater = (h : History) (s : Bytes) → CorrectionsFollow (feed h s)

-- by this rule for feeds nothing of an item is released to anybody behind its kill or recall
abbrev pub EndsWithKills : (History → Bytes → List Dispatch) → Type 0
EndsWithKills feed = (h : History) → IsLegal h → (s : Bytes) (i j : ℕ) (d : Dispatch) (q : Pub) → slice_get (feed h s) i ≡ Some d → slice_get (standing h) j ≡ Some q →
    d.shown.item ≡ q.item → takes_back q.kind ≡ true → d.shown.number < q.number → d.release ≤ q.release

-- the publication is one of these
abbrev pub Has : List Dispatch → Pub → Type 0
Has ds q = (release : ℕ) × (k : ℕ) × (slice_get ds k ≡ Some (dispatch q release))

-- whose feed has a publication, that feed has each later kill and recall of its item
abbrev pub KillsReach : Type 0
KillsReach = (h : History) → IsLegal h → (s : Bytes) (i j : ℕ) (d : Dispatch) (q : Pub) → slice_get (feed h s) i ≡ Some d → slice_get (standing h) j ≡ Some q →
    d.shown.item ≡ q.item → takes_back q.kind ≡ true → d.shown.number < q.number → Has (feed h s) q

-- a kill or recall of the publication's item that came behind it is in the feed
abbrev pub IsTakenBack : History → Bytes → Pub → Type 0
IsTakenBack h s q = (j : ℕ) × (t : Pub) × (slice_get (standing h) j ≡ Some t) × (t.item ≡ q.item) × (takes_back t.kind ≡ true) × (q.number < t.number) × Has (feed h s) t

-- and each later correction is in the feed, or waits for its subscriber; or else the feed has what took it back
abbrev pub CorrectionsReach : Type 0
CorrectionsReach = (h : History) → IsLegal h → (s : Bytes) (i j : ℕ) (d : Dispatch) (q : Pub) → slice_get (feed h s) i ≡ Some d → slice_get (standing h) j ≡ Some q →
    d.shown.item ≡ q.item → is_first q.kind ≡ false → d.shown.number < q.number → (Has (feed h s) q ⊎ Has (waiting h s) q) ⊎ IsTakenBack h s q

-- ---- the same, said of any rule, so that a wrong rule can be held against it

-- where a legal list goes on, each feed by this rule begins with that of the list before
abbrev pub OnlyGrow : (History → Bytes → List Dispatch) → Type 0
OnlyGrow feed = (more h : History) (s : Bytes) → IsLegal (more ++ h) → BeginsWith (feed (more ++ h) s) (feed h s)

-- whom a publication of this kind reaches: a correction all to whom something of its item is due, a kill or recall those to whom
-- that is released by then
abbrev pub IsReached : Kind → ℕ → ℕ → Type 0
IsReached Correct release earlier = Unit {0}
IsReached _ release earlier = earlier ≤ release

-- by this rule a correction, kill or recall is due to each whom it reaches, whatever is permitted
abbrev pub ReachesAll : (History → List Pub → Kind → ℕ → Story → ℕ → List Bytes → Bytes → Bool) → Type 0
ReachesAll is_due_to = (h : History) (n : ℕ) (p : Pub) (kind : Kind) (story : Story) (release earlier : ℕ) (targets : List Bytes) (s : Bytes) → IsLegal h →
    is_first kind ≡ false → slice_get (standing h) n ≡ Some p → release_to s p.due ≡ Some earlier → IsReached kind release earlier →
    is_due_to h (standing h) kind p.item story release targets s ≡ true
