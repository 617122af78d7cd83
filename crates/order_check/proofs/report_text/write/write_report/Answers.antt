use Rattle.order_check.proofs.Lemmas.{◌∙◌, arith, common_steps, lines_text, report-plain}
use Rattle.order_check.proofs.report_text.write.write_report.Goals as goal

pub returns-clause-text : goal.returns-clause-text
unfolding lines_text
returns-clause-text c = grind (arith, common_steps)

pub returns-clause-plain : goal.returns-clause-plain
returns-clause-plain c = λ right found.
    returns-clause-text c ∙ report-plain c.args.hierarchy.now.entries.items c.args.report.now.lines.items c.requires right found
