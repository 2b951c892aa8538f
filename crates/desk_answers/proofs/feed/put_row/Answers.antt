use Rattle.std.proofs.Common.{rules, refl, ap, sym, ◌≡◌, ◌∙◌, ◌++◌, ◌∷◌, []}
use Rattle.std.specs.Prelude.{codes, decimal}
use Rattle.std.proofs.lemmas.Result.{on_ok_weaker}
use Rattle.json.specs.Token.{begin_object, end_object, key, string, number}
use Rattle.desk_answers.specs.Words.{kind_word}
use Rattle.desk_answers.proofs.Tokens.{then}
use Rattle.desk_answers.proofs.feed.put_row.Goals as goal

pub returns-clause-tokens : goal.returns-clause-tokens
returns-clause-tokens c =
    let e0 = c.in_ok-begin_object.ensures.ok in
    let e1 = then _ (begin_object ∷ []) (key (codes "item") ∷ []) _ _ e0 c.in_ok-key.ensures.ok in
    let e2 = then _ (begin_object ∷ key (codes "item") ∷ []) (number (decimal c.args.row.now.item) ∷ []) _ _ e1 c.in_ok-u64.ensures.ok in
    let e3 = then _ (begin_object ∷ key (codes "item") ∷ number (decimal c.args.row.now.item) ∷ []) (key (codes "k") ∷ []) _ _ e2 c.in_ok-key-2.ensures.ok in
    let e4 = then _ (begin_object ∷ key (codes "item") ∷ number (decimal c.args.row.now.item) ∷ key (codes "k") ∷ []) (number (decimal c.args.row.now.k) ∷ []) _ _ e3 c.in_ok-u64-2.ensures.ok in
    let e5 = then _ (begin_object ∷ key (codes "item") ∷ number (decimal c.args.row.now.item) ∷ key (codes "k") ∷ number (decimal c.args.row.now.k) ∷ []) (key (codes "kind") ∷ []) _ _ e4 c.in_ok-key-3.ensures.ok in
    let e6 = then _ (begin_object ∷ key (codes "item") ∷ number (decimal c.args.row.now.item) ∷ key (codes "k") ∷ number (decimal c.args.row.now.k) ∷ key (codes "kind") ∷ []) (string c.word_of_kind.result.now ∷ []) _ _ e5 c.in_ok-string.ensures.ok in
    let e7 = then _ (begin_object ∷ key (codes "item") ∷ number (decimal c.args.row.now.item) ∷ key (codes "k") ∷ number (decimal c.args.row.now.k) ∷ key (codes "kind") ∷ string c.word_of_kind.result.now ∷ []) (key (codes "publication") ∷ []) _ _ e6 c.in_ok-key-4.ensures.ok in
    let e8 = then _ (begin_object ∷ key (codes "item") ∷ number (decimal c.args.row.now.item) ∷ key (codes "k") ∷ number (decimal c.args.row.now.k) ∷ key (codes "kind") ∷ string c.word_of_kind.result.now ∷ key (codes "publication") ∷ []) (number (decimal c.args.row.now.publication) ∷ []) _ _ e7 c.in_ok-u64-3.ensures.ok in
    let e9 = then _ (begin_object ∷ key (codes "item") ∷ number (decimal c.args.row.now.item) ∷ key (codes "k") ∷ number (decimal c.args.row.now.k) ∷ key (codes "kind") ∷ string c.word_of_kind.result.now ∷ key (codes "publication") ∷ number (decimal c.args.row.now.publication) ∷ []) (key (codes "release") ∷ []) _ _ e8 c.in_ok-key-5.ensures.ok in
    let e10 = then _ (begin_object ∷ key (codes "item") ∷ number (decimal c.args.row.now.item) ∷ key (codes "k") ∷ number (decimal c.args.row.now.k) ∷ key (codes "kind") ∷ string c.word_of_kind.result.now ∷ key (codes "publication") ∷ number (decimal c.args.row.now.publication) ∷ key (codes "release") ∷ []) (number (decimal c.args.row.now.release) ∷ []) _ _ e9 c.in_ok-u64-4.ensures.ok in
    let e11 = then _ (begin_object ∷ key (codes "item") ∷ number (decimal c.args.row.now.item) ∷ key (codes "k") ∷ number (decimal c.args.row.now.k) ∷ key (codes "kind") ∷ string c.word_of_kind.result.now ∷ key (codes "publication") ∷ number (decimal c.args.row.now.publication) ∷ key (codes "release") ∷ number (decimal c.args.row.now.release) ∷ []) (key (codes "version") ∷ []) _ _ e10 c.in_ok-key-6.ensures.ok in
    let e12 = then _ (begin_object ∷ key (codes "item") ∷ number (decimal c.args.row.now.item) ∷ key (codes "k") ∷ number (decimal c.args.row.now.k) ∷ key (codes "kind") ∷ string c.word_of_kind.result.now ∷ key (codes "publication") ∷ number (decimal c.args.row.now.publication) ∷ key (codes "release") ∷ number (decimal c.args.row.now.release) ∷ key (codes "version") ∷ []) (number (decimal c.args.row.now.version) ∷ []) _ _ e11 c.in_ok-u64-5.ensures.ok in
    on_ok_weaker c.end_object.result (λ last. rw (sym c.word_of_kind.ensures) (then _ (begin_object ∷ key (codes "item") ∷ number (decimal c.args.row.now.item) ∷ key (codes "k") ∷ number (decimal c.args.row.now.k) ∷ key (codes "kind") ∷ string c.word_of_kind.result.now ∷ key (codes "publication") ∷ number (decimal c.args.row.now.publication) ∷ key (codes "release") ∷ number (decimal c.args.row.now.release) ∷ key (codes "version") ∷ number (decimal c.args.row.now.version) ∷ []) (end_object ∷ []) _ _ e12 last)) c.end_object.ensures.ok
