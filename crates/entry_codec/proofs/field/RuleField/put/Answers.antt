use Rattle.byte_formats.specs.Spelling.{name, byte, u32, text, option, flag}
use Rattle.entry_codec.specs.Spelling.{place}
use Rattle.entry_codec.proofs.Appends.{then}
use Rattle.entry_codec.proofs.field.RuleField.put.Goals as goal

pub returns-clause-bytes : goal.returns-clause-bytes
returns-clause-bytes c =
    let r = c.args.self.now in
    then _ _ _ (option name r.filter) _ c.in_ok-put_option.ensures.bytes
    (then _ _ _ (byte r.days) _ c.in_ok-put_byte.ensures
    (then _ _ _ (u32 r.from) _ c.in_ok-put_u32.ensures
    (then _ _ _ (u32 r.to) _ c.in_ok-put_u32-2.ensures
    (then _ _ _ (text r.zone) _ c.in_ok-put_text.ensures.bytes
    (then _ _ _ (option place r.fetch) _ c.in_ok-put_option-2.ensures.bytes (then _ _ _ (flag r.publish) (flag r.exit) c.in_ok-put_flag.ensures c.in_ok-put_flag-2.ensures))))))
