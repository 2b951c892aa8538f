-- The words of answers.
use Rattle.std.specs.Prelude.{ℕ, List, codes}
use Rattle.news_types.specs.declared.words.Kind.{Kind}
use Rattle.news_types.specs.declared.words.Kind.TheVariants as kind
use Rattle.news_types.specs.declared.words.State.{State}
use Rattle.news_types.specs.declared.words.State.TheVariants as state
use Rattle.news_types.specs.declared.words.Privilege.{Privilege}
use Rattle.news_types.specs.declared.words.Privilege.TheVariants as privilege
use Rattle.news_types.specs.declared.words.Thing.{Thing}
use Rattle.news_types.specs.declared.words.Thing.TheVariants as thing
use Rattle.news_types.specs.declared.denial.Denial.{Denial}
use Rattle.news_types.specs.declared.denial.Denial.TheVariants.{OutOfTurn, NumberUsed, UnknownUser, NoPrivilege, UnknownThing, NameTaken, NotMember, WrongState, NotLocked, LockedBy, NotReleased, AlreadyReleased, BothTimes, PastMoment, ReceiptAhead, NotPaused, FilterOrder, BadOperand, Limit}
use Rattle.news_types.specs.declared.query.FeedState.{FeedState}
use Rattle.news_types.specs.declared.query.FeedState.TheVariants as fares

abbrev pub kind_word : Kind → List ℕ
kind_word kind.First = codes "first"
kind_word kind.Correct = codes "correct"
kind_word kind.Kill = codes "kill"
kind_word kind.Recall = codes "recall"

abbrev pub state_word : State → List ℕ
state_word state.Draft = codes "draft"
state_word state.Ingested = codes "ingested"
state_word state.Routed = codes "routed"
state_word state.Fetched = codes "fetched"
state_word state.Submitted = codes "submitted"
state_word state.InProgress = codes "in_progress"
state_word state.Spiked = codes "spiked"
state_word state.Scheduled = codes "scheduled"
state_word state.Published = codes "published"
state_word state.Corrected = codes "corrected"
state_word state.Killed = codes "killed"
state_word state.Recalled = codes "recalled"

abbrev pub privilege_word : Privilege → List ℕ
privilege_word privilege.Users = codes "users"
privilege_word privilege.Desks = codes "desks"
privilege_word privilege.Filters = codes "filters"
privilege_word privilege.Subscribers = codes "subscribers"
privilege_word privilege.Ingest = codes "ingest"
privilege_word privilege.Write = codes "write"
privilege_word privilege.Publish = codes "publish"
privilege_word privilege.Kill = codes "kill"
privilege_word privilege.Unlock = codes "unlock"
privilege_word privilege.Stop = codes "stop"

abbrev pub thing_word : Thing → List ℕ
thing_word thing.User = codes "user"
thing_word thing.Desk = codes "desk"
thing_word thing.Stage = codes "stage"
thing_word thing.Condition = codes "condition"
thing_word thing.Filter = codes "filter"
thing_word thing.Product = codes "product"
thing_word thing.Subscriber = codes "subscriber"
thing_word thing.Scheme = codes "scheme"
thing_word thing.Provider = codes "provider"
thing_word thing.Item = codes "item"
thing_word thing.Publication = codes "publication"

-- how a feed fares
abbrev pub feed_state_word : FeedState → List ℕ
feed_state_word fares.Paused = codes "paused"
feed_state_word fares.Retrying = codes "retrying"
feed_state_word fares.Pending = codes "pending"
feed_state_word fares.Waiting = codes "waiting"
feed_state_word fares.Success = codes "success"

-- a denial is written with its own name, and its place in their order
abbrev pub denial_word : Denial → List ℕ
denial_word (OutOfTurn expected) = codes "OutOfTurn"
denial_word (NumberUsed kept) = codes "NumberUsed"
denial_word UnknownUser = codes "UnknownUser"
denial_word (NoPrivilege privilege) = codes "NoPrivilege"
denial_word (UnknownThing thing) = codes "UnknownThing"
denial_word NameTaken = codes "NameTaken"
denial_word (NotMember desk) = codes "NotMember"
denial_word (WrongState state) = codes "WrongState"
denial_word NotLocked = codes "NotLocked"
denial_word (LockedBy user session) = codes "LockedBy"
denial_word (NotReleased release) = codes "NotReleased"
denial_word (AlreadyReleased release) = codes "AlreadyReleased"
denial_word BothTimes = codes "BothTimes"
denial_word (PastMoment moment) = codes "PastMoment"
denial_word (ReceiptAhead length) = codes "ReceiptAhead"
denial_word NotPaused = codes "NotPaused"
denial_word FilterOrder = codes "FilterOrder"
denial_word BadOperand = codes "BadOperand"
denial_word (Limit which number) = codes "Limit"

abbrev pub denial_number : Denial → ℕ
denial_number (OutOfTurn expected) = 1
denial_number (NumberUsed kept) = 2
denial_number UnknownUser = 3
denial_number (NoPrivilege privilege) = 4
denial_number (UnknownThing thing) = 5
denial_number NameTaken = 6
denial_number (NotMember desk) = 7
denial_number (WrongState state) = 8
denial_number NotLocked = 9
denial_number (LockedBy user session) = 10
denial_number (NotReleased release) = 11
denial_number (AlreadyReleased release) = 12
denial_number BothTimes = 13
denial_number (PastMoment moment) = 14
denial_number (ReceiptAhead length) = 15
denial_number NotPaused = 16
denial_number FilterOrder = 17
denial_number BadOperand = 18
denial_number (Limit which number) = 19
