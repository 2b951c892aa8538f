use Rattle.std.proofs.Common.{rules, refl, ap, sym, ◌≡◌, ◌∙◌, ◌++◌, ◌∷◌, [], List}
use Rattle.std.specs.Prelude.{codes, decimal}
use Rattle.json.specs.Token.{Token, begin_object, end_object, begin_array, key, string, number}
use Rattle.json.specs.Tree.{items_tokens}
use Rattle.json.specs.Print.{print}
use Rattle.serde_json.specs.Data as json
use Rattle.serde_json.specs.Written.{items_outline}
use Rattle.serde_json.proofs.Texts.{print-outline}
use Rattle.desk_answers.specs.Members.{objects, ◌with◌, text, number as numbered, list, answering}
use Rattle.desk_answers.specs.Answers.{feed_row}
use Rattle.desk_answers.proofs.Tokens.{then}
use Rattle.desk_answers.proofs.feed.feed_text.Goals as goal

pub returns : goal.returns
returns c =
    let f0 = c.in_ok-begin_object.ensures.ok in
    let f1 = then _ (begin_object ∷ []) (key (codes "answer") ∷ []) _ _ f0 c.in_ok-key.ensures.ok in
    let f2 = then _ (begin_object ∷ key (codes "answer") ∷ []) (string (codes "feed") ∷ []) _ _ f1 c.in_ok-string.ensures.ok in
    let f3 = then _ (begin_object ∷ key (codes "answer") ∷ string (codes "feed") ∷ []) (key (codes "entries") ∷ []) _ _ f2 c.in_ok-key-2.ensures.ok in
    let f4 = then _ (begin_object ∷ key (codes "answer") ∷ string (codes "feed") ∷ key (codes "entries") ∷ []) (begin_array ∷ []) _ _ f3 c.in_ok-begin_array.ensures.ok in
    let g0 = c.in_ok-key-3.ensures.ok in
    let g1 = then _ (key (codes "length") ∷ []) (number (decimal c.args.length) ∷ []) _ _ g0 c.in_ok-u64.ensures.ok in
    let g2 = then _ (key (codes "length") ∷ number (decimal c.args.length) ∷ []) (key (codes "subscriber") ∷ []) _ _ g1 c.in_ok-key-4.ensures.ok in
    let g3 = then _ (key (codes "length") ∷ number (decimal c.args.length) ∷ key (codes "subscriber") ∷ []) (string c.as_str.result.now ∷ []) _ _ g2 c.in_ok-string-2.ensures.ok in
    let g4 = then _ (key (codes "length") ∷ number (decimal c.args.length) ∷ key (codes "subscriber") ∷ string c.as_str.result.now ∷ []) (end_object ∷ []) _ _ g3 c.in_ok-end_object.ensures.ok in
    let h = then _ (items_tokens (items_outline (objects feed_row c.args.rows.now))) (key (codes "length") ∷ number (decimal c.args.length) ∷ key (codes "subscriber") ∷ string c.as_str.result.now ∷ end_object ∷ []) _ _ c.in_ok-put_rows.ensures.tokens g4 in
    let all = then _ (begin_object ∷ key (codes "answer") ∷ string (codes "feed") ∷ key (codes "entries") ∷ begin_array ∷ []) (items_tokens (items_outline (objects feed_row c.args.rows.now)) ++ (key (codes "length") ∷ number (decimal c.args.length) ∷ key (codes "subscriber") ∷ string c.as_str.result.now ∷ end_object ∷ [])) _ _ f4 h in
    let big : List Token = (begin_object ∷ key (codes "answer") ∷ string (codes "feed") ∷ key (codes "entries") ∷ begin_array ∷ []) ++ (items_tokens (items_outline (objects feed_row c.args.rows.now)) ++ (key (codes "length") ∷ number (decimal c.args.length) ∷ key (codes "subscriber") ∷ string c.as_str.result.now ∷ end_object ∷ [])) in
    let before = c.in_ok-end_object.ensures.room.0 ∙ (c.in_ok-string-2.ensures.room.0 ∙ (c.in_ok-key-4.ensures.room.0 ∙ (c.in_ok-u64.ensures.room.0 ∙ (c.in_ok-key-3.ensures.room.0 ∙ (c.in_ok-put_rows.ensures.before ∙ (c.in_ok-begin_array.ensures.room.0 ∙ (c.in_ok-key-2.ensures.room.0 ∙ (c.in_ok-string.ensures.room.0 ∙ (c.in_ok-key.ensures.room.0 ∙ (c.in_ok-begin_object.ensures.room.0 ∙ (c.new-out.ensures.before ∙ c.in_ok-with_capacity.ensures.items))))))))))) in
    let printed = c.of.ensures ∙ c.into_inner.ensures.items in
    rw (sym c.as_str.ensures) (printed ∙ ap (λ l. l ++ print c.end_object.new.self.tokens) before ∙ ap print (all ∙ ap (λ l. l ++ big) c.new-out.ensures.tokens)
    ∙ print-outline (json.object (answering "feed" with list "entries" feed_row c.args.rows.now with numbered "length" c.args.length with text "subscriber" c.as_str.result.now)))
