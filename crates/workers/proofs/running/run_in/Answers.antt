use Rattle.std.proofs.Common.{rules, ◌≡◌, ◌∙◌, List, ap, subst, length, arith}
use Rattle.workers.specs.Ended.{Reported}
use Rattle.workers.specs.Replacing.{IsTally}
use Rattle.workers.specs.Summaries.{AreLines, some_compiled}
use Rattle.workers.proofs.Replacements.{two_each}
use Rattle.workers.proofs.running.run_in.Goals as goal

pub returns : goal.returns
returns g c =
    let done = c.in_ok-installed.ensures in
    let (all, rest) = two_each (length c.args.code.now) c.args.reclaimer c.replace_each.new.self c.requires.codes c.in_ok-replace_each.ensures in
    let long : length c.in_ok-installed.field-0.installed.items ≡ length c.replace_each.new.self.installed = ap length done.installed in
    let tally : IsTally (length c.args.code.now) c.in_ok-installed.field-0.installed.items c.in_ok-installed.field-0.freed.items = record {
      begun = c.args.reclaimer;
      replaced = c.replace_each.new.self;
      installs = c.requires.codes;
      replaces = c.in_ok-replace_each.ensures;
      reclaims = done.freed;
      installed_all = done.installed;
    } in
    record {
      ran = c.in_ok-reports.ensures.reports;
      lines = subst (λ (rs : List Reported). AreLines 1 rs c.in_ok-lines.lines.items) c.as_slice.ensures.value c.in_ok-lines.ensures.lines;
      count = search rules;
      compiled = c.some_compiled-compiled.ensures ∙ ap some_compiled c.as_slice-2.ensures.value;
      codes_done = tally;
      installed = long ∙ all;
      freed = omega (arith, done.few, rest, long, all);
    }
