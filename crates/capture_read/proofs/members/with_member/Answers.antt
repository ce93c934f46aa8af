use Rattle.std.proofs.Common.{◌≡◌, codes, sym, ◌∙◌}
use Rattle.capture_read.proofs.MembersRead.{dir_is_not_hex, text_of_put, whole_of_put, text_of_other, whole_of_other}
use Rattle.capture_read.proofs.members.with_member.Goals as goal

pub returns-in-port : goal.returns-in-port
returns-in-port c = λ ms d said seen.
    let k = c.args.name.now in
    let is : k ≡ codes "port" = c.in-port.is in record {
      port = c.whole_of.ensures ∙ seen.whole ∙ sym (whole_of_put k (codes "port") d ms is);
      dir = said.dir ∙ sym (text_of_other k (codes "dir") d ms (λ same. let never : codes "dir" ≡ codes "port" = same ∙ is in absurd (cc)));
      hex = said.hex ∙ sym (text_of_other k (codes "hex") d ms (λ same. let never : codes "hex" ≡ codes "port" = same ∙ is in absurd (cc)));
    }

pub returns-in-dir : goal.returns-in-dir
returns-in-dir c = λ ms d said seen.
    let k = c.args.name.now in
    let is : k ≡ codes "dir" = c.in-dir.is in record {
      port = said.port ∙ sym (whole_of_other k (codes "port") d ms (λ same. c.in-dir.not-port (sym same)));
      dir = c.text_of.ensures ∙ seen.text ∙ sym (text_of_put k (codes "dir") d ms is);
      hex = said.hex ∙ sym (text_of_other k (codes "hex") d ms (λ same. dir_is_not_hex (same ∙ is)));
    }

pub returns-in-hex : goal.returns-in-hex
returns-in-hex c = λ ms d said seen.
    let k = c.args.name.now in
    let is : k ≡ codes "hex" = c.in-hex.is in record {
      port = said.port ∙ sym (whole_of_other k (codes "port") d ms (λ same. c.in-hex.not-port (sym same)));
      dir = said.dir ∙ sym (text_of_other k (codes "dir") d ms (λ same. c.in-hex.not-dir (sym same)));
      hex = c.text_of-in-hex.ensures ∙ seen.text ∙ sym (text_of_put k (codes "hex") d ms is);
    }

pub returns-in_default : goal.returns-in_default
returns-in_default c = λ ms d said seen.
    let k = c.args.name.now in record {
      port = said.port ∙ sym (whole_of_other k (codes "port") d ms (λ same. c.in_default.not-port (sym same)));
      dir = said.dir ∙ sym (text_of_other k (codes "dir") d ms (λ same. c.in_default.not-dir (sym same)));
      hex = said.hex ∙ sym (text_of_other k (codes "hex") d ms (λ same. c.in_default.not-hex (sym same)));
    }
