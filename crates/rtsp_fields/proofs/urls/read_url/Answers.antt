use Rattle.std.proofs.Common.{◌-◌, drop, take, refl, sym, ◌∙◌, arith}
use Rattle.rtsp_text.specs.Grammar.{is_url_byte}
use Rattle.rtsp_text.proofs.LineBounds.{all-take, all-drop}
use Rattle.rtsp_text.proofs.SingleLineTexts.{one_line-url}
use Rattle.rtsp_fields.proofs.RequestUrls.{absolute_url}
use Rattle.rtsp_fields.proofs.FilmNames.{line_of_name, name_lent}
use Rattle.rtsp_fields.proofs.urls.read_url.Goals as goal

pub returns-clause-read : goal.returns-clause-read
returns-clause-read c =
    let path = c.part_end-path.ensures in
    record {
      path = c.part_end-path.result;
      is_url = absolute_url (sym c.has_url_bytes.ensures ∙ c.if-not-has_url_bytes.false) (record {
        scheme = c.starts_with.ensures.0 c.if-not-starts_with.false;
        authority = omega (arith, path.after, c.if-path-eq7.false);
        end = path;
      });
      authority_is = refl;
      name_is = name_lent c.film_name.result _ c.film_name.ensures;
    }

pub returns-clause-authority_line : goal.returns-clause-authority_line
returns-clause-authority_line c =
    one_line-url (take (c.part_end-path.result - 7) (drop 7 c.args.url.now))
    (all-take is_url_byte (c.part_end-path.result - 7) (drop 7 c.args.url.now)
    (all-drop is_url_byte 7 c.args.url.now (sym c.has_url_bytes.ensures ∙ c.if-not-has_url_bytes.false)))

pub returns-clause-name_line : goal.returns-clause-name_line
returns-clause-name_line c = line_of_name (λ name. name.now) c.film_name.result _ c.film_name.ensures
