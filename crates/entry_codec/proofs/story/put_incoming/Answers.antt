use Rattle.std.proofs.Common.{◌++◌, ◌∙◌, ap, ℕ}
use Rattle.byte_formats.specs.Spelling.{byte, u64, text}
use Rattle.entry_codec.specs.Spelling.{status_number, story}
use Rattle.entry_codec.proofs.Appends.{then}
use Rattle.entry_codec.proofs.story.put_incoming.Goals as goal

pub returns-clause-bytes : goal.returns-clause-bytes
returns-clause-bytes c =
    let i = c.args.incoming.now in
    let status = c.in_ok-put_byte.ensures ∙ ap (λ (b : ℕ). c.put_u64-2.new.out.items ++ byte b) c.status_byte.ensures in
    then _ _ _ (text i.identity) _ c.in_ok-put_text.ensures.bytes
    (then _ _ _ (u64 i.created) _ c.in_ok-put_u64.ensures
    (then _ _ _ (u64 i.embargo) _ c.in_ok-put_u64-2.ensures (then _ _ _ (byte (status_number i.status)) (story i.story) status c.in_ok-put_story.ensures.bytes)))
