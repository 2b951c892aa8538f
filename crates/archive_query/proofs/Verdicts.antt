-- What reading a text says of it.
use Rattle.std.proofs.Common.{◌≡◌, ℕ, ◌+◌, ◌≤◌, List, [], ◌∷◌, length, Result, Ok, Err, refl, sym, ap, ◌∙◌, lit≤}
use Rattle.std.specs.Prelude.{MatchResult, IfOk, IfErr}
use Rattle.news_types.specs.Names.{Bytes}
use Rattle.archive_query.specs.declared.ask.Ask.{Ask}
use Rattle.archive_query.specs.declared.parsing.QueryFault.{QueryFault}
use Rattle.archive_query.specs.declared.parsing.QueryFault.TheVariants as fault
use Rattle.archive_query.specs.declared.reader.Stop.{Stop}
use Rattle.archive_query.specs.declared.reader.Stop.TheVariants as stop
use Rattle.archive_query.specs.Query.{Query}
use Rattle.archive_query.specs.Tokens.{tokens, joined}
use Rattle.archive_query.specs.Grammar.{IsQuery}
use Rattle.archive_query.specs.Faults.{IsFaultOf}
use Rattle.archive_query.specs.View.{query_of}
use Rattle.archive_query.specs.Reading.{State, Refusal, Refused, step, ended, then_run, run}
use Rattle.archive_query.specs.Readers.{Steps, Ends}
use Rattle.archive_query.specs.Parsing.{fault_of, read_text, IsReadAs}
use Rattle.archive_query.proofs.Leads.{spelled_reads}
use Rattle.archive_query.proofs.Judged.{read_spells, refused_judged}

-- ---- how a run ends

-- at a token that is refused
pub step_refused : (text : Bytes) (why : Stop) (at : ℕ) (s new : State) (token : Bytes) (rest : List Bytes) → run 32 s (token ∷ rest) ≡ read_text text → at + length (joined (token ∷ rest)) ≡ length text
    → Steps (Err why) new (step 32 s token) → IsReadAs text (Err (fault_of why at)) (read_text text)
unfolding run
step_refused text stop.Misplaced at s new token rest reads place h = (token ∷ rest, sym reads ∙ ap (λ (r : Result State Refusal). then_run r (token ∷ rest) (λ t. run 32 t rest)) h, place)
step_refused text stop.TooDeep at s new token rest reads place h = (token ∷ rest, sym reads ∙ ap (λ (r : Result State Refusal). then_run r (token ∷ rest) (λ t. run 32 t rest)) h, place)
step_refused text stop.Memory at s new token rest reads place h = tt

-- where the tokens end too soon
pub end_refused : (text : Bytes) (why : Stop) (at : ℕ) (s : State) → run 32 s [] ≡ read_text text → at + length (joined []) ≡ length text → Ends (Err why) (ended s.levels s.waits s.wants) → IsReadAs text (Err (fault_of why at)) (read_text text)
unfolding run
end_refused text stop.Misplaced at s reads place h = ([], sym reads ∙ h, place)
end_refused text stop.TooDeep at s reads place h = absurd h
end_refused text stop.Memory at s reads place h = tt

pub end_reads : (text : Bytes) (s : State) (ask : Ask) → run 32 s [] ≡ read_text text → Ends (Ok ask) (ended s.levels s.waits s.wants) → read_text text ≡ Ok (query_of ask)
unfolding run
end_reads text s ask reads h = sym reads ∙ h

-- ---- what it says

pub query_found : (text : Bytes) (q : Query) → length text ≤ 65536 → read_text text ≡ Ok q → IsQuery text q
query_found text q short is = record { short = short; spelled = read_spells (tokens text) q is }

query_is_read : (text : Bytes) (q : Query) → IsQuery text q → read_text text ≡ Ok q
query_is_read text q is = spelled_reads 32 32 (tokens text) q (lit≤ tt) is.spelled

not_both : (r : Result Query Refused) (q : Query) (e : Refused) → r ≡ Ok q → r ≡ Err e → ⊥
not_both r q e is that = absurd cc

-- what spells a query is read as that query, or memory is wanting
pub only_query : (text : Bytes) (r : Result Ask QueryFault) (q : Query) → IsReadAs text r (read_text text) → IsQuery text q → MatchResult r (λ ask. query_of ask ≡ q) (λ f. f ≡ fault.Memory)
only_query text (Ok ask) q h is = let same : Ok (query_of ask) ≡ Ok q = sym h ∙ query_is_read text q is in cc
only_query text (Err (fault.At at)) q h is = absurd (not_both (read_text text) q _ (query_is_read text q is) h.1)
only_query text (Err (fault.TooDeep at)) q h is = absurd (not_both (read_text text) q _ (query_is_read text q is) h.1)
only_query text (Err (fault.TooLong n)) q h is = absurd h
only_query text (Err fault.Memory) q h is = refl

-- each fault is there
pub fault_there : (text : Bytes) (f : QueryFault) → length text ≤ 65536 → IsReadAs text (Err f) (read_text text) → IsFaultOf text f
fault_there text (fault.At at) short h =
    let j = refused_judged (tokens text) (record { why = Refusal.Misplaced; rest = h.0 }) h.1 in
    (j.0, h.0, record { short = short; tokens_are = j.1; at_is = h.2; begun = j.2 }, j.3)
fault_there text (fault.TooDeep at) short h =
    let j = refused_judged (tokens text) (record { why = Refusal.TooDeep; rest = h.0 }) h.1 in
    (j.0, h.0, record { short = short; tokens_are = j.1; at_is = h.2; begun = j.2 }, j.3)
fault_there text (fault.TooLong n) short h = absurd h
fault_there text fault.Memory short h = tt

pub found_in : (text : Bytes) (r : Result Ask QueryFault) → length text ≤ 65536 → IsReadAs text r (read_text text) → IfOk r (λ ask. IsQuery text (query_of ask))
found_in text (Ok ask) short h = query_found text (query_of ask) short h
found_in text (Err f) short h = tt

pub fault_in : (text : Bytes) (r : Result Ask QueryFault) → length text ≤ 65536 → IsReadAs text r (read_text text) → IfErr r (IsFaultOf text)
fault_in text (Ok ask) short h = tt
fault_in text (Err f) short h = fault_there text f short h
