mod ByCallLemmas
mod CallLemmas
mod Examples
