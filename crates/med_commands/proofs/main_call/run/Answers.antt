use Rattle.med_commands.proofs.main_call.run.Goals as goal

pub returns-in-BuildIndex-clause-later : goal.returns-in-BuildIndex-clause-later
returns-in-BuildIndex-clause-later g c =
    c.build_index.ensures.later (g.N.Nodes.state c.args.nodes.now)
