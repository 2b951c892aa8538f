-- One subscriber's view.
use Rattle.std.specs.Prelude.{◌≡◌, ℕ, true}
use Rattle.news_types.specs.declared.query.Answer.{Answer}
use Rattle.news_types.specs.declared.query.Query.{Query}
use Rattle.news_types.specs.declared.query.Query.TheVariants.{Feed, Frame}
use Rattle.news_types.specs.Answers.{query_answer}
use Rattle.news_types.specs.Feeds.{feed}
use Rattle.news_types.specs.Frames.{Writer, format, frame_bytes_at}
use Rattle.news_types.specs.History.{History}
use Rattle.news_types.specs.Names.{Bytes}
use Rattle.news_types.specs.Products.{is_subscriber}

-- the two lists agree about a subscriber: both have it, with one feed and one format
pub record Agree (h g : History) (s : Bytes) : Type 0 where
  pub known : is_subscriber h s ≡ true
  pub known_too : is_subscriber g s ≡ true
  pub feeds : feed g s ≡ feed h s
  pub formats : format g s ≡ format h s

-- what is answered to a question, where publications are written so
abbrev pub answer_to : Writer → History → Query → Answer
answer_to write h query = query_answer (frame_bytes_at write h) h query

-- then the answers to questions about that feed and its frames are equal
abbrev pub FeedsAreViews : Type 0
FeedsAreViews = (write : Writer) (h g : History) (s : Bytes) (n : ℕ) → Agree h g s → (answer_to write g (Feed s n) ≡ answer_to write h (Feed s n)) × (answer_to write g (Frame s n) ≡ answer_to write h (Frame s n))
