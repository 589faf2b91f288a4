use Rattle.std.{proofs.Common.{◌≡◌, ◌||◌, [], ap, sym, ◌∙◌, subst, if◌then◌else◌}, specs.{Option.{is_some, option_map}, Io.KnownBytes.Appends}}
use Rattle.domain_nsec3.specs.View.{as_param_record}
use Rattle.denial_program.proofs.RunLemmas.{appends_more, on_ok}
use Rattle.judge_program.{specs.Told.{any_of, param_line}, proofs.RunLemmas.is_some_mapped}
use Rattle.judge_program.proofs.told.write_records.Goals as goal

pub returns : goal.returns
returns g c =
    let m = option_map any_of c.args.matched in
    let n = option_map any_of c.args.closer in
    let w = option_map any_of c.args.wildcard in
    let param = option_map (λ k. as_param_record (λ n. n) k.now) c.args.param in
    let is : (c.is_some.result || c.is_some-2.result || c.is_some-3.result) ≡ (is_some m || is_some n || is_some w) =
    ap (λ b. b || c.is_some-2.result || c.is_some-3.result) (c.is_some.ensures ∙ sym (is_some_mapped any_of c.args.matched))
    ∙ ap (λ b. is_some m || b || c.is_some-3.result) (c.is_some-2.ensures ∙ sym (is_some_mapped any_of c.args.closer))
    ∙ ap (λ b. is_some m || is_some n || b) (c.is_some-3.ensures ∙ sym (is_some_mapped any_of c.args.wildcard)) in
    on_ok (λ h. appends_more _ _ _ _ _ (appends_more _ _ _ _ _ (appends_more _ _ _ _ _ c.in_ok-write_once.ensures c.in_ok-write_once-2.ensures)
    c.in_ok-write_once-3.ensures) (subst (λ b. Appends (g.W.Write.contents c.write_once-3.new.output) (g.W.Write.contents c.write_param.new.output)
    (if b then param_line param else [])) is h)) _ c.write_param.ensures
