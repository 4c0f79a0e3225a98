use Rattle.client_forms.proofs.FormLemmas.{no_room_for_words}
use Rattle.client_forms.proofs.run.run_client.Goals as goal

pub returns-in-Err-clause-answers : goal.returns-in-Err-clause-answers
returns-in-Err-clause-answers g c = no_room_for_words _ _ _ _

pub returns-in-Err-form_of-clause-answers : goal.returns-in-Err-form_of-clause-answers
returns-in-Err-form_of-clause-answers g c = no_room_for_words _ _ _ _
