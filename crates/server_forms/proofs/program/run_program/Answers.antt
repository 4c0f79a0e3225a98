use Rattle.server_forms.proofs.program.run_program.Goals as goal

pub returns-clause-told : goal.returns-clause-told
returns-clause-told g c = (c.run_words-status.result, c.finish.ensures.number, c.finish.ensures.told)
