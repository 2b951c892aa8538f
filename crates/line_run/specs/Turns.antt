-- What a machine does with lines, one after the other.
use Rattle.std.specs.Prelude.{◌≡◌, ◌⊎◌, ◌<◌, ℕ, true, false, List, [], ◌∷◌, ◌++◌, length, Result, Ok, Err}
use Rattle.news_io.specs.Faults.{Rose}
use Rattle.line_run.specs.Life.{Outcome, Meaning, Life, Took, Kept}
use Rattle.run_status.specs.Output.{Wrote, AllPassed}
use Rattle.line_run.specs.Step.{IsNext}
use Rattle.line_run.specs.declared.answering.Stopped.{Stopped}
use Rattle.line_run.specs.declared.answering.Stopped.TheVariants.{Memory, Fault, Full}
use Rattle.line_run.specs.declared.ending.Ending.{Ending}
use Rattle.line_run.specs.declared.ending.Ending.TheVariants as end
use Rattle.news_io.specs.Sink.{AreFirst, SinkMeaning}

-- what ends the run where a line has no answer
abbrev pub ending_of : Stopped → Ending
ending_of Memory = end.Memory
ending_of Fault = end.Store
ending_of Full = end.Full

-- one line that was answered, at a reading of the clock
pub record Turn (X : Type 0) : Type 0 where
  pub line : X
  pub at : ℕ

-- the list behind these turns, the newest of them first
abbrev pub after : {T X : Type 0} → Meaning T X → List T → List (Turn X) → List T
after M h [] = h
after M h (t ∷ ts) = (M (after M h ts) t.line t.at).adds ++ after M h ts

-- their answers, each with a line feed
abbrev pub texts : {T X : Type 0} → Meaning T X → List T → List (Turn X) → List ℕ
texts M h [] = []
texts M h (t ∷ ts) = texts M h ts ++ ((M (after M h ts) t.line t.at).text ++ 10 ∷ [])

-- the readings taken for them
abbrev pub readings : {T X : Type 0} → Meaning T X → List T → List (Turn X) → List ℕ
readings M h [] = []
readings M h (t ∷ ts) = readings M h ts ++ (M (after M h ts) t.line t.at).took

-- their lines, in order
abbrev pub asked : {X : Type 0} → List (Turn X) → List X
asked [] = []
asked (t ∷ ts) = asked ts ++ t.line ∷ []

-- no record of them passed the limit
abbrev pub AllFit : {T X : Type 0} → Meaning T X → List T → List (Turn X) → Type 0
AllFit M h [] = Unit {0}
AllFit M h (t ∷ ts) = AllFit M h ts × ((M (after M h ts) t.line t.at).passes ≡ false)

-- all these lines were answered, in order, and each answer has passed on; where an entry was kept, nothing is in doubt
pub record AnsweredAll {T C A O X : Type 0} (M : Meaning T X) (L : Life T C A) (sink : SinkMeaning O) (old new : A) (o o' : O) (h : List T) (lines : List X) : Type 0 where
  pub turns : List (Turn X)
  pub asked_is : lines ≡ asked turns
  pub fit : AllFit M h turns
  pub kept : Kept L old new h (after M h turns)
  pub calm : (e : T) → L.doubts new e → (after M h turns ≡ h) × L.doubts old e
  pub wrote : Wrote sink o o' (texts M h turns)
  pub passed : sink.tells o → AllPassed sink o → AllPassed sink o'
  pub clock : Took L old new (readings M h turns)

-- the log ended it
abbrev pub ByLog : Ending → Type 0
ByLog end.Store = Unit {0}
ByLog end.Full = Unit {0}
ByLog why = ⊥

-- of a line without a whole answer, all by one reading of the clock: the first of its entries are kept, and the first bytes of its answer written, none before
-- all entries are kept
pub record Begun {T : Type 0} (outcome : Outcome T) (why : Ending) (part : List T) (said took : List ℕ) (D D' : T → Type 0) : Type 0 where
  pub entries : (later : List T) × (outcome.adds ≡ later ++ part)
  -- the log leaves at least one of them
  pub unkept : ByLog why → (e : T) × IsNext outcome.adds part e
  pub full : why ≡ end.Full → outcome.passes ≡ true
  -- a fault may have left the entry that was tried, and nothing else
  pub doubt : (e : T) → D' e → D e ⊎ ((why ≡ end.Store) × IsNext outcome.adds part e)
  pub bytes : (more : List ℕ) × (outcome.text ++ 10 ∷ [] ≡ said ++ more)
  pub order : 0 < length said → part ≡ outcome.adds
  pub clock : (took ≡ []) ⊎ (took ≡ outcome.took)

-- no line was begun
pub record NoneBegun {T : Type 0} (why : Ending) (part : List T) (said took : List ℕ) (D D' : T → Type 0) : Type 0 where
  pub entries : part ≡ []
  pub bytes : said ≡ []
  pub clock : took ≡ []
  pub other : ByLog why → ⊥
  pub calm : (e : T) → D' e → D e

abbrev pub NextIs : {T X : Type 0} → Meaning T X → List T → List X → Ending → List T → List ℕ → List ℕ → (T → Type 0) → (T → Type 0) → Type 0
NextIs M h [] why part said took D D' = NoneBegun why part said took D D'
NextIs M h (line ∷ later) why part said took D D' = (at : ℕ) × Begun (M h line at) why part said took D D'

-- the first of these lines were answered, in order, and their answers have passed on; of the next there may be something
pub record AnsweredSome {T C A O X : Type 0} (M : Meaning T X) (L : Life T C A) (sink : SinkMeaning O) (old new : A) (o o' : O) (h : List T) (lines : List X) (why : Ending) : Type 0 where
  pub turns : List (Turn X)
  pub later : List X
  pub asked_is : lines ≡ asked turns ++ later
  pub fit : AllFit M h turns
  pub part : List T
  pub said : List ℕ
  pub took : List ℕ
  -- what was in doubt before is so only where nothing was kept since
  pub next : NextIs M (after M h turns) later why part said took (λ e. (part ++ after M h turns ≡ h) × L.doubts old e) (L.doubts new)
  -- an answer is cut short only by the output
  pub half : 0 < length said → why ≡ end.Write
  pub kept : Kept L old new h (part ++ after M h turns)
  pub wrote : Wrote sink o o' (texts M h turns ++ said)
  pub passed : sink.tells o → AllPassed sink o → AreFirst (sink.taken o ++ texts M h turns) (sink.passed o')
  pub clock : Took L old new (readings M h turns ++ took)

abbrev pub Did : {T C A O X : Type 0} → Meaning T X → Life T C A → SinkMeaning O → A → A → O → O → List T → List X → Result (Unit {0}) Ending → Type 0
Did M L sink old new o o' h lines (Ok u) = AnsweredAll M L sink old new o o' h lines
Did M L sink old new o o' h lines (Err why) = AnsweredSome M L sink old new o o' h lines why

-- the counts of the machine and of the output, by what ended the lines: a failure only where the count rose, and else it is as it was
abbrev pub Causes : ℕ → ℕ → ℕ → ℕ → Result (Unit {0}) Ending → Type 0
Causes m m' o o' (Err end.Read) = ⊥
Causes m m' o o' (Err end.TooLong) = ⊥
Causes m m' o o' (Err end.Write) = (m' ≡ m) × Rose o o'
Causes m m' o o' (Err end.Store) = Rose m m' × (o' ≡ o)
Causes m m' o o' r = (m' ≡ m) × (o' ≡ o)
